-- Who joins, and who leaves without a turn.
use Rattle.std.proofs.Common.{◌≡◌, ℕ, ◌+◌, List, [], ◌∷◌, take, Bool, Option, Some, None, option_map, inl, inr, if◌then◌else◌, refl, sym, ap, subst, ◌∙◌}
use Rattle.std.specs.declared.net.ip_addr.IpAddr.{IpAddr}
use Rattle.slab.specs.Slab.{Slab, get, Updates}
use Rattle.nfs_lines.specs.Written.{Written, Reported}
use Rattle.nfs_exports.specs.declared.addr.Addr.{Addr}
use Rattle.nfs_loop.specs.Peers.{IsAddrOf}
use Rattle.nfs_loop.specs.declared.member.Member.{Member}
use Rattle.nfs_loop.specs.Reports.{Report, came, IsReported, Accounts}
use Rattle.nfs_loop.specs.Stages.{stage, state, seat_of, Goes, JoinsOrNot, WithoutTurns}
use Rattle.nfs_loop.proofs.Reporting.{accounts_then, accounts_one}
use Rattle.nfs_loop.proofs.Changing.{nothing}
use Rattle.nfs_server.specs.Connections.{IsAtStart}
use Rattle.nfs_server.specs.Fits.{Held}
use Rattle.nfs_serving.specs.Service.{joins, leaves, LeavesBy, end_text}
use Rattle.nfs_serving.specs.declared.turn.End.{End}
use Rattle.nfs_xdr.specs.Known.{Grows}

module _ {L : Type 0} (outgoing incoming : L → Option (List ℕ)) where
  pub joined_by : (reported reported_now reported_then : Option (List Report)) (key : ℕ) (peer : IpAddr) (old new : Slab (Member L)) (joined now : ℕ) → IsReported reported (came key peer) reported_now → Accounts reported_now [] reported_then → JoinsOrNot key peer old joined new now
      → (server : Held) (lines : Written) → Goes outgoing incoming (λ changes. WithoutTurns reported changes reported_then) (stage server old joined lines) (stage server new now lines)
  joined_by reported reported_now reported_then key peer old new joined now report more (inl not) server lines =
      nothing outgoing incoming reported reported_then server old new joined now lines not.0 not.1 (accounts_then reported reported_now reported_then [] [] (accounts_one reported reported_now (came key peer) report) more)
  joined_by reported reported_now reported_then key peer old new joined now report more (inr j) server lines = record {
    changes = joins key now j.member.client.value.connection.addr ∷ [];
    are_changes = (
      state (stage server old joined lines),
      refl,
      record {
        client = j.member.client.value;
        free = ap (option_map seat_of) j.free;
        sits = ap (option_map seat_of) j.sits.changed ∙ ap (λ n. Some (record { number = n; client = j.member.client.value })) (sym j.joined_is);
        begins = j.begins;
        addr_is = refl;
        number_is = j.joined_is ∙ j.number_is;
        joined_is = refl;
        others = λ other differ. ap (option_map seat_of) (j.sits.others other differ);
        server_stays = refl;
        log_stays = refl;
        lines_stay = refl;
        broken_stays = refl;
        complete_stays = refl;
      },
    );
    shared_stays = refl;
    such = (refl, accounts_then reported reported_now reported_then (joins key now j.member.client.value.connection.addr ∷ []) [] (tt, λ before e. (came key peer ∷ [], report before e, ([], [], record { peer = peer; addr_is = j.addr_is; reported = refl }, tt))) more);
  }

  -- one leaves that had no turn
  pub left_by : (reported reported_now : Option (List Report)) (server : Held) (key : ℕ) (member : Member L) (old new : Slab (Member L)) (joined : ℕ) (w v : Written) → get old key ≡ Some member → Updates old new key None → Accounts reported [] reported_now
      → (by : End) × LeavesBy member.client.value by × Reported (end_text member.number member.client.value.calls by) w v
      → Goes outgoing incoming (λ changes. WithoutTurns reported changes reported_now) (stage server old joined w) (stage server new joined v)
  left_by reported reported_now server key member old new joined w v was away accounts (by, ended, written_line) = record {
    changes = leaves key member.number member.client.value.calls by ∷ [];
    are_changes = (
      state (stage server old joined w),
      refl,
      record {
        client = member.client.value;
        sat = ap (option_map seat_of) was;
        calls_are = refl;
        ended = ended;
        gone = ap (option_map seat_of) away.changed;
        line = take written_line.n (end_text member.number member.client.value.calls by);
        part = (written_line.n, written_line.within, refl);
        whole = written_line.whole;
        lines_grow = written_line.lines_grow;
        log_grows = subst (λ (s : Bool). Grows w.log (if s then take written_line.n (end_text member.number member.client.value.calls by) else []) v.log) written_line.shared_stays written_line.log_grows;
        log_stays = written_line.log_stays;
        others = λ other differ. ap (option_map seat_of) (away.others other differ);
        joined_stays = refl;
        server_stays = refl;
      },
    );
    shared_stays = written_line.shared_stays;
    such = (refl, accounts);
  }

-- a new member has joined
pub joins_as : {L : Type 0} (key : ℕ) (peer : IpAddr) (old new : Slab (Member L)) (joined : ℕ) (member : Member L) (addr : Addr) → key ≡ old.vacant_key → get old old.vacant_key ≡ None → Updates old new old.vacant_key (Some member)
    → IsAtStart addr member.client.value.connection → member.client.value.chunk ≡ [] → member.client.value.end ≡ None → IsAddrOf peer (Some addr) → member.number ≡ joined + 1 → JoinsOrNot key peer old joined new member.number
joins_as key peer old new joined member addr at free sits start nothing_came goes_on from number = inr (record {
  member = member;
  free = ap (get old) at ∙ free;
  sits = subst (λ k. Updates old new k (Some member)) (sym at) sits;
  begins = record { begins = start.begins; nothing_came = nothing_came; goes_on = goes_on };
  addr_is = subst (λ a. IsAddrOf peer (Some a)) (sym start.addr_is) from;
  number_is = number;
  joined_is = refl;
})
