-- Addresses whose next connections wait.
use Rattle.std.specs.Prelude.{◌≡◌, ◌⊎◌, ℕ, ◌+◌, ◌-◌, ◌^◌, ◌&&◌, min, Bool, true, false, not, nat_eq, nat_le, nat_lt, if◌then◌else◌, List, [], ◌∷◌, ◌++◌, length, drop, filter, Option, Some, None, option_map}
use Rattle.nfs_exports.specs.declared.addr.Addr.{Addr}
use Rattle.nfs_loop.specs.Reports.{Report, since, IsReported}
use Rattle.nfs_loop.specs.declared.refused_peers.RefusedPeer.{RefusedPeer}
use Rattle.nfs_loop.specs.declared.watches.Hold.{Hold}
use Rattle.nfs_loop.specs.declared.watches.Hold.TheVariants.{Until}
use Rattle.nfs_server.specs.declared.serve_fault.ServeFault.TheVariants.{AuditFault}
use Rattle.nfs_serving.specs.declared.turn.End.{End}
use Rattle.nfs_serving.specs.declared.turn.End.TheVariants.{Fault}

-- whether connections from an address wait now, by what is remembered of a peer
abbrev pub has_to_wait : Addr → ℕ → RefusedPeer → Bool
has_to_wait addr now peer = nat_eq peer.addr.0 addr.0 && nat_lt now peer.until

-- until when the connections from an address wait, if they have to
abbrev pub wait_until : Addr → ℕ → List RefusedPeer → Option ℕ
wait_until addr now [] = None
wait_until addr now (peer ∷ peers) = if has_to_wait addr now peer then Some peer.until else wait_until addr now peers

-- why a new client from an address gets no turn for now, if it gets none
abbrev pub hold_for : Addr → ℕ → List RefusedPeer → Option Hold
hold_for addr now peers = option_map Until (wait_until addr now peers)

-- whether another address than this one still has to wait
abbrev pub is_other_waiting : Addr → ℕ → RefusedPeer → Bool
is_other_waiting addr now peer = nat_lt now peer.until && not (nat_eq peer.addr.0 addr.0)

-- without the oldest of 1,024
abbrev pub room_for_one : List RefusedPeer → List RefusedPeer
room_for_one peers = if nat_le 1024 (length peers) then drop 1 peers else peers

-- what is remembered once a call from an address is refused, but for that address: those that still have to wait, at most 1,023
abbrev pub others_waiting : Addr → ℕ → List RefusedPeer → List RefusedPeer
others_waiting addr now peers = room_for_one (filter (is_other_waiting addr now) peers)

-- and that address, whose connections wait for 1,000 milliseconds
abbrev pub with_refused : Addr → ℕ → List RefusedPeer → List RefusedPeer
with_refused addr now peers = others_waiting addr now peers ++ record { addr = addr; until = min (now + 1000) (2 ^ 64 - 1) } ∷ []

-- whether a connection ended since a denied call was refused, whose line could not be written
abbrev pub is_audit_fault : End → Bool
is_audit_fault (Fault AuditFault) = true
is_audit_fault other = false

-- Where a denied call was refused so, the next connections from its address wait, by the time that the clock reported, and nothing else was reported; without memory they don't. Else nothing is remembered.
abbrev pub IsRefusedBy : Bool → Addr → Option (List Report) → Option (List Report) → List RefusedPeer → List RefusedPeer → Type 0
IsRefusedBy false addr reported reported_now old new = new ≡ old
IsRefusedBy true addr reported reported_now old new = (now : ℕ) × IsReported reported (since now) reported_now × ((new ≡ with_refused addr now old) ⊎ (new ≡ others_waiting addr now old))
