-- What is printed of the outcomes of a run.
use Rattle.std.specs.Prelude.{◌≡◌, ◌⊎◌, ℕ, zero, suc, length, map, reverse, take, Bool, true, false, List, [], ◌∷◌, ◌++◌, codes, Option, Some, None, Result, Ok, Err, IsSome, IsNone}
use Rattle.std.specs.Str.{IsTrimAsciiEnd}
use Rattle.hex.specs.Hex.{encode_lower}
use Rattle.nfs_server.specs.AuditLines.{line_text}
use Rattle.nfs_server.specs.Events.{Event, Answer, Done}
use Rattle.nfs_server.specs.Fits.{Held, History, Fits}
use Rattle.nfs_server.specs.Runs.{longer}
use Rattle.nfs_server.specs.declared.audit_line.AuditLine.{AuditLine}
use Rattle.nfs_replay.specs.declared.fault.RunFault.{RunFault}
use Rattle.nfs_replay.specs.declared.queued_call.QueuedCall.{QueuedCall}
use Rattle.nfs_xdr.specs.Known.{Grows, GrowsByPart}

-- all of a text is printed, or at a fault some first bytes of it
abbrev pub Prints : Option (List ℕ) → List ℕ → Result (Unit {0}) RunFault → Option (List ℕ) → Type 0
Prints before text (Ok done) after = Grows before text after
Prints before text (Err fault) after = GrowsByPart before text after

-- ---- one outcome

-- the line of a denied call; names, where there are some, stand in it before its end
abbrev pub IsNamedLine : List ℕ → List ℕ → List ℕ → Type 0
IsNamedLine line [] text = text ≡ line
IsNamedLine line (byte ∷ names) text = (front : List ℕ) × IsTrimAsciiEnd line front × (text ≡ front ++ (byte ∷ names) ++ 10 ∷ [])

-- no line has no text
abbrev pub IsAudit : Option AuditLine → List ℕ → List ℕ → Type 0
IsAudit None names text = text ≡ []
IsAudit (Some line) names text = IsNamedLine (line_text line) names text

-- `reply `, and two digits a byte
abbrev pub reply_line : List ℕ → List ℕ
reply_line reply = codes "reply " ++ encode_lower reply ++ 10 ∷ []

-- what a reply says in words follows it where that is asked for
abbrev pub IsReply : Bool → Option (List ℕ) → List ℕ → Type 0
IsReply decoded None text = text ≡ []
IsReply false (Some reply) text = text ≡ reply_line reply
IsReply true (Some reply) text = (words : List ℕ) × (text ≡ reply_line reply ++ words)

-- the audit line of an answer, and then its reply
pub record IsPrinted (decoded : Bool) (names : List ℕ) (a : Answer) (text : List ℕ) : Type 0 where
  pub audit : List ℕ
  pub reply : List ℕ
  pub is_audit : IsAudit a.line names audit
  pub is_reply : IsReply decoded a.reply reply
  pub text_is : text ≡ audit ++ reply

-- ---- outcomes one after another

-- the names of the call whose outcome comes next
abbrev pub next_names : List QueuedCall → List ℕ
next_names [] = []
next_names (call ∷ calls) = call.names.items

-- the calls after it
abbrev pub later : List QueuedCall → List QueuedCall
later [] = []
later (call ∷ calls) = calls

-- A take that goes on has printed all, and one that ends the run some first bytes, and has the fault.
abbrev pub Says : List ℕ → Bool → Option RunFault → Option RunFault → Option (List ℕ) → Option (List ℕ) → Type 0
Says text true was fault before after = (fault ≡ was) × Grows before text after
Says text false was fault before after = IsSome fault × GrowsByPart before text after

abbrev pub Takes : Bool → List QueuedCall → Answer → Bool → Option RunFault → Option RunFault → Option (List ℕ) → Option (List ℕ) → Type 0
Takes decoded calls a said was fault before after = (text : List ℕ) × IsPrinted decoded (next_names calls) a text × Says text said was fault before after

-- ---- a run

-- the calls after so many
abbrev pub after_calls : ℕ → List QueuedCall → List QueuedCall
after_calls zero calls = calls
after_calls (suc n) calls = later (after_calls n calls)

-- what is printed of answers, the newest first: of each its own, one after another
abbrev pub ArePrinted : Bool → List QueuedCall → List Done → List ℕ → Type 0
ArePrinted decoded calls [] text = text ≡ []
ArePrinted decoded calls (d ∷ earlier) text = (before own : List ℕ) × ArePrinted decoded calls earlier before
    × IsPrinted decoded (next_names (after_calls (length earlier) calls)) d.answer own × (text ≡ before ++ own)

-- The first n events are answered, after a history that fits, and what each is answered is printed: of all of them, but where a fault ends the run.
pub record RunsPrinted (decoded : Bool) (calls : List QueuedCall) (history : History) (events : List Event) (n : ℕ)
    (was fault : Option RunFault) (before after : Option (List ℕ)) (s : Held) : Type 0 where
  pub done : List Done
  pub events_are : map (λ (d : Done). d.event) (reverse done) ≡ take n events
  pub fits : Fits (longer history done) s
  pub text : List ℕ
  pub printed : ArePrinted decoded calls done text
  pub ends : ((fault ≡ was) × Grows before text after) ⊎ (IsSome fault × GrowsByPart before text after)
  pub all : IsNone fault → n ≡ length events
