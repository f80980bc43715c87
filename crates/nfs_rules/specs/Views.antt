-- What callers and files that calls name are, as values.
use Rattle.std.specs.Prelude.{ℕ, List, [], ◌∷◌, Option, Some, None, Result, Ok, Err}
use Rattle.nfs_rpc.specs.AuthSys.{credential_of}
use Rattle.nfs_rules.specs.Subjects as shown
use Rattle.nfs_rules.specs.declared.caller.Caller.{Caller}
use Rattle.nfs_rules.specs.declared.verdict.Handles.{Handles}
use Rattle.nfs_rules.specs.declared.verdict.Handles.TheVariants as handles

abbrev pub caller_of : Caller → shown.Caller
caller_of c = record { addr = c.addr; cred = credential_of c.cred.now }

-- the value of a result that has one
abbrev pub ok_of : {X E : Type 0} → Result X E → Option X
ok_of (Ok x) = Some x
ok_of (Err e) = None

abbrev pub handles_seen : Handles → List (List ℕ)
handles_seen handles.None = []
handles_seen (handles.One handle) = handle.now ∷ []
handles_seen (handles.Two one two) = one.now ∷ two.now ∷ []
