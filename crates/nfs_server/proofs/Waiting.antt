-- A record that waits for its line.
use Rattle.std.proofs.Common.{◌≡◌, ℕ, ◌+◌, ◌-◌, ◌<◌, ◌≤◌, Bool, true, List, [], ◌++◌, take, drop, length, Option, Ok, refl, sym, ap, subst, ◌∙◌, append_assoc, append-nil, arith}
use Rattle.std.proofs.lemmas.List.{take-append-drop, take_rest}
use Rattle.nfs_rpc.specs.Progress.{Progress, Moves, Unfinished}
use Rattle.nfs_rpc.specs.declared.framer.Stage.TheVariants.{Ready}
use Rattle.nfs_server.specs.Connections.{IsBetween}
use Rattle.nfs_server.specs.Denying.{fails_rule}
use Rattle.nfs_server.specs.Feeding.{device, event_at, replies_of}
use Rattle.nfs_server.specs.Fits.{Held}
use Rattle.nfs_server.specs.Taking.{FeedsOne, Holds, IsOneAtMost, Waits}
use Rattle.nfs_server.specs.declared.taking.Origin.{Origin}
use Rattle.nfs_server.specs.declared.taking.Step.{Step}
use Rattle.nfs_server.specs.declared.taking.Stop.{Stop}
use Rattle.nfs_server.specs.declared.taking.Stop.TheVariants.{Done as Finished, Denied, Memory as NoMemory}
use Rattle.nfs_server.proofs.OneRecord.{feeds_none, whole}

pub moves_none : (p : Progress) → Moves p [] p
moves_none p text u = subst (λ t. Unfinished t p) (sym (append-nil text)) u

-- nothing is taken of a record that waits
pub feeds_held : (origin : Origin) (s : Held) (from to : Progress) (a v : Option (List ℕ)) (stop : Stop) (step : Step) (chunk : List ℕ) → step ≡ record { used = 0; records = 0; replied = 0; stop = stop } → to ≡ from → IsBetween from
    → FeedsOne origin chunk (Ok step) s s from to (device a a) (device v v)
feeds_held origin s from to a v stop step chunk e same between =
    subst (λ (p : Progress). FeedsOne origin chunk (Ok step) s s from p (device a a) (device v v)) (sym same)
    (subst (λ (it : Step). FeedsOne origin chunk (Ok it) s s from from (device a a) (device v v)) (sym e)
    (feeds_none (λ done. IsOneAtMost done × (0 ≡ length (replies_of done))) origin s from from a v (tt, refl) [] between (moves_none from)))

-- where nothing was taken, what waits for a line waits for a record that fails a rule
pub waits_at : (origin : Origin) (s : Held) (p mid : Progress) (full : Bool) (chunk : List ℕ) (n : ℕ) → mid.stage ≡ Ready → Moves p (take n chunk) mid → full ≡ true → fails_rule s (event_at origin mid.content) ≡ true
    → Waits Denied full origin chunk s p
waits_at origin s p mid full chunk n ready moves is_full fails = (
  is_full,
  λ text u.
      let w = whole mid (text ++ take n chunk) ready (moves text u) in
      let cut : text ++ chunk ≡ (text ++ take n chunk) ++ drop n chunk = ap (λ t. text ++ t) (sym (take-append-drop n chunk)) ∙ sym (append_assoc text (take n chunk) (drop n chunk)) in
      (mid.content, (drop n chunk, record { text = text ++ take n chunk; encoded = w.1; bytes_are = cut }), fails),
)

pub held_so : (origin : Origin) (s : Held) (from to : Progress) (full : Bool) (stop : Stop) (step : Step) (chunk : List ℕ) → step ≡ record { used = 0; records = 0; replied = 0; stop = stop } → Holds stop 0 → to ≡ from
    → Waits stop full origin chunk s from → Holds step.stop step.used × Waits step.stop full origin chunk s to
held_so origin s from to full stop step chunk e holds same waits =
    subst (λ (p : Progress). Holds step.stop step.used × Waits step.stop full origin chunk s p) (sym same)
    (subst (λ (it : Step). Holds it.stop it.used × Waits it.stop full origin chunk s from) (sym e) (holds, waits))

-- ---- along a chunk

-- what waits at the end of a step waits there
pub waits_on : (stop : Stop) (full : Bool) (origin : Origin) (chunk : List ℕ) (i used : ℕ) (s : Held) (p : Progress) → Holds stop used → Waits stop full origin (take (length chunk - i) (drop i chunk)) s p
    → Waits stop full origin (drop (i + used) chunk) s p
waits_on Finished full origin chunk i used s p holds waits = tt
waits_on Denied full origin chunk i used s p holds waits = subst (λ left. Waits Denied full origin left s p) (take_rest chunk i ∙ ap (λ k. drop k chunk) (omega (arith, holds))) waits
waits_on NoMemory full origin chunk i used s p holds waits = subst (λ left. Waits NoMemory full origin left s p) (take_rest chunk i ∙ ap (λ k. drop k chunk) (omega (arith, holds))) waits

-- whether more is taken, as a number
abbrev pub going : Stop → ℕ
going Finished = 1
going Denied = 0
going NoMemory = 0

-- each step leaves less to do
pub less_left : (stop : Stop) (len i used : ℕ) → i < len → Holds stop used → (stop ≡ Finished → 0 < used) → i + used ≤ len → len - (i + used) + going stop < len - i + 1
less_left Finished len i used more holds some within = omega (arith, more, some refl, within)
less_left Denied len i used more holds some within = omega (arith, more, holds)
less_left NoMemory len i used more holds some within = omega (arith, more, holds)
