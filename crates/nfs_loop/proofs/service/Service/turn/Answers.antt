use Rattle.std.proofs.Common.{◌≢◌, true, false, ◌/◌, [], None, length, inl, inr, refl, sym, subst, ap, ◌∙◌}
use Rattle.std.proofs.lemmas.Bool.{true≢false}
use Rattle.nfs_loop.specs.Reports.{IsReported, at, since}
use Rattle.nfs_loop.specs.Stages.{seats}
use Rattle.nfs_loop.specs.Watching.{heard_at, hold_at}
use Rattle.nfs_queue.specs.Queues.{is_waiting}
use Rattle.nfs_serving.specs.Turns.{Standing}
use Rattle.nfs_loop.proofs.Beside.{journal_holds, noted_holds, turn_holds}
use Rattle.nfs_loop.proofs.Hearing.{heard_back, heard_gone, heard_turn, heard_unless, time_now, unheard_back, unheard_turn}
use Rattle.nfs_loop.proofs.Lengthening.{waits_last}
use Rattle.nfs_loop.proofs.Staying.{first_held, held_after}
use Rattle.nfs_loop.proofs.Reporting.{accounts_one, more_by, more_same}
use Rattle.nfs_loop.proofs.Watched.{held_now, length_after, length_heard, watched_back, watched_gone}
use Rattle.nfs_loop.proofs.Watching.{heard_stays}
use Rattle.nfs_loop.proofs.Turning.{comes_back, goes_away, nobody_turns}
use Rattle.nfs_loop.proofs.service.Service.turn.Goals as goal

pub returns-in-Ended : goal.returns-in-Ended
returns-in-Ended g c = record {
  goes = goes_away g.L.Link.outgoing g.L.Link.incoming g.L.Link.reports _ c.now-moment.result c.args.self.now.clients c.next.new.self c.in-Some.key c.in-Some.member c.in-Some.ensures.some _ c.deref_mut.ensures.value _ _ _ _ _ c.turn-turn.ensures.stays refl refl refl
      _ _ _ (accounts_one _ _ (since c.millis-millis.result) c.millis-millis.ensures) (subst (IsReported _ (at c.now-moment.result)) (sym c.read_clock.ensures) c.now-moment.ensures) _ c.turn-turn.ensures.turns (λ notes e. c.turn-turn.ensures.holds (noted_holds _ _ _ c.holds_replies-holds.ensures notes e))
      _ (λ e. c.turn-turn.ensures.holds (journal_holds g.J.JournalOut.lasting g.J.JournalOut.failed _ _ _ c.holds_replies-holds.ensures e)) c.leave.new.self.watches _ _ c.leave.ensures.reported c.leave.ensures.lines;
  holds = λ key. inl (ap (λ ws. hold_at ws key) c.leave.ensures.watches ∙ c.hear.ensures.holds key);
  heard = heard_turn g.L.Link.incoming g.L.Link.reports (g.N.Network.reported c.args.net.now) _ c.args.self.now.clients.0 c.in-Some.member c.args.self.now.clients.1.0 c.next.new.self.1.0 c.next.new.self.1.0 c.in-Some.key (c.millis-millis.result / 1000) c.args.self.now.housekeeping.watches c.hear.new.self c.leave.new.self.watches (seats c.next.new.self.0) c.is_heard-is_heard.result
      c.in-Some.ensures.some.first c.in-Some.ensures.some.was c.requires.watched c.hear.ensures.heard (λ k. ap (λ ws. heard_at ws k) c.leave.ensures.watches)
      (time_now _ _ _ _ c.millis-millis.result (at c.now-moment.result) c.millis-millis.ensures (subst (IsReported _ (at c.now-moment.result)) (sym c.read_clock.ensures) c.now-moment.ensures) (more_by _ _ [] c.leave.ensures.reported)) (heard_unless c.is_heard-is_heard.result _ _ c.is_heard-is_heard.ensures c.in-Ended.is (λ e. cc))
      (heard_gone g.L.Link.incoming g.L.Link.reports _ (hold_at c.leave.new.self.watches c.in-Some.key) c.args.self.now.clients.0 c.next.new.self.0 c.in-Some.key c.in-Some.ensures.some.away);
  looked = c.leave.ensures.looked;
  limits = c.leave.ensures.limits;
  watched = watched_gone c.args.self.now.clients c.next.new.self c.in-Some.key c.in-Some.member c.in-Some.ensures.some c.args.self.now.housekeeping.watches c.leave.new.self.watches (ap length c.leave.ensures.watches ∙ length_heard c.args.self.now.housekeeping.watches c.hear.new.self c.in-Some.key _ _ c.hear.ensures.heard) c.requires.watched;
}

pub returns-in-Fed : goal.returns-in-Fed
returns-in-Fed g c = record {
  goes = comes_back g.L.Link.outgoing g.L.Link.incoming g.L.Link.reports _ c.now-moment.result c.args.self.now.clients c.next.new.self c.in-Some.key c.in-Some.member c.in-Some.ensures.some _ c.deref_mut.ensures.value _ _ _ _ _ c.turn-turn.ensures.stays refl refl refl
      _ _ _ (accounts_one _ _ (since c.millis-millis.result) c.millis-millis.ensures) (subst (IsReported _ (at c.now-moment.result)) (sym c.read_clock.ensures) c.now-moment.ensures) _ c.turn-turn.ensures.turns (λ notes e. c.turn-turn.ensures.holds (noted_holds _ _ _ c.holds_replies-holds.ensures notes e))
      _ (λ e. c.turn-turn.ensures.holds (journal_holds g.J.JournalOut.lasting g.J.JournalOut.failed _ _ _ c.holds_replies-holds.ensures e)) c.hear.new.self c.put_back.new.self true c.put_back.ensures.back c.put_back.ensures.queue (λ e. absurd (true≢false e));
  holds = λ key. inl (c.hear.ensures.holds key);
  heard = heard_turn g.L.Link.incoming g.L.Link.reports (g.N.Network.reported c.args.net.now) _ c.args.self.now.clients.0 c.in-Some.member c.args.self.now.clients.1.0 c.next.new.self.1.0 c.put_back.new.self.1.0 c.in-Some.key (c.millis-millis.result / 1000) c.args.self.now.housekeeping.watches c.hear.new.self c.hear.new.self (seats c.put_back.new.self.0) c.is_heard-is_heard.result
      c.in-Some.ensures.some.first c.in-Some.ensures.some.was c.requires.watched c.hear.ensures.heard (λ k. refl)
      (time_now _ _ _ _ c.millis-millis.result (at c.now-moment.result) c.millis-millis.ensures (subst (IsReported _ (at c.now-moment.result)) (sym c.read_clock.ensures) c.now-moment.ensures) (more_same _ _ refl)) (heard_unless c.is_heard-is_heard.result _ _ c.is_heard-is_heard.ensures c.in-Fed.is (λ e. cc))
      (heard_back g.L.Link.incoming g.L.Link.reports _ (hold_at c.hear.new.self c.in-Some.key) c.next.new.self.0 c.put_back.new.self.0 c.in-Some.key _ c.put_back.ensures.back (inl (ap (is_waiting c.in-Some.key) c.put_back.ensures.queue ∙ waits_last c.in-Some.key c.next.new.self.1.0)));
  looked = refl;
  limits = refl;
  watched = watched_back c.args.self.now.clients c.next.new.self c.in-Some.key c.in-Some.member c.in-Some.ensures.some c.put_back.new.self.0 _ c.args.self.now.housekeeping.watches c.hear.new.self c.put_back.ensures.back (length_heard c.args.self.now.housekeeping.watches c.hear.new.self c.in-Some.key _ _ c.hear.ensures.heard) c.requires.watched;
}

pub returns-in-Drained : goal.returns-in-Drained
returns-in-Drained g c = record {
  goes = comes_back g.L.Link.outgoing g.L.Link.incoming g.L.Link.reports _ c.now-moment.result c.args.self.now.clients c.next.new.self c.in-Some.key c.in-Some.member c.in-Some.ensures.some _ c.deref_mut.ensures.value _ _ _ _ _ c.turn-turn.ensures.stays refl refl refl
      _ _ _ (accounts_one _ _ (since c.millis-millis.result) c.millis-millis.ensures) (subst (IsReported _ (at c.now-moment.result)) (sym c.read_clock.ensures) c.now-moment.ensures) _ c.turn-turn.ensures.turns (λ notes e. c.turn-turn.ensures.holds (noted_holds _ _ _ c.holds_replies-holds.ensures notes e))
      _ (λ e. c.turn-turn.ensures.holds (journal_holds g.J.JournalOut.lasting g.J.JournalOut.failed _ _ _ c.holds_replies-holds.ensures e)) c.hear.new.self c.put_back-in-Drained.new.self _ c.put_back-in-Drained.ensures.back c.put_back-in-Drained.ensures.queue (λ e. inr (c.in-Drained.ensures.reports.0, inl (c.in-Drained.ensures.reports.1, inr c.in-Drained.ensures.asked)));
  holds = λ key. inl (c.hear.ensures.holds key);
  heard = heard_turn g.L.Link.incoming g.L.Link.reports (g.N.Network.reported c.args.net.now) _ c.args.self.now.clients.0 c.in-Some.member c.args.self.now.clients.1.0 c.next.new.self.1.0 c.put_back-in-Drained.new.self.1.0 c.in-Some.key (c.millis-millis.result / 1000) c.args.self.now.housekeeping.watches c.hear.new.self c.hear.new.self (seats c.put_back-in-Drained.new.self.0) c.is_heard-is_heard.result
      c.in-Some.ensures.some.first c.in-Some.ensures.some.was c.requires.watched c.hear.ensures.heard (λ k. refl)
      (time_now _ _ _ _ c.millis-millis.result (at c.now-moment.result) c.millis-millis.ensures (subst (IsReported _ (at c.now-moment.result)) (sym c.read_clock.ensures) c.now-moment.ensures) (more_same _ _ refl)) (heard_unless c.is_heard-is_heard.result _ _ c.is_heard-is_heard.ensures c.in-Drained.is (λ e. cc))
      (heard_back g.L.Link.incoming g.L.Link.reports _ (hold_at c.hear.new.self c.in-Some.key) c.next.new.self.0 c.put_back-in-Drained.new.self.0 c.in-Some.key _ c.put_back-in-Drained.ensures.back (inr (inr (inr (c.in-Drained.ensures.reports.1, c.in-Drained.ensures.asked)))));
  looked = refl;
  limits = refl;
  watched = watched_back c.args.self.now.clients c.next.new.self c.in-Some.key c.in-Some.member c.in-Some.ensures.some c.put_back-in-Drained.new.self.0 _ c.args.self.now.housekeeping.watches c.hear.new.self c.put_back-in-Drained.ensures.back (length_heard c.args.self.now.housekeeping.watches c.hear.new.self c.in-Some.key _ _ c.hear.ensures.heard) c.requires.watched;
}

pub returns-in-Idle : goal.returns-in-Idle
returns-in-Idle g c = record {
  goes = comes_back g.L.Link.outgoing g.L.Link.incoming g.L.Link.reports _ c.now-moment.result c.args.self.now.clients c.next.new.self c.in-Some.key c.in-Some.member c.in-Some.ensures.some _ c.deref_mut.ensures.value _ _ _ _ _ c.turn-turn.ensures.stays refl refl refl
      _ _ _ (accounts_one _ _ (since c.millis-millis.result) c.millis-millis.ensures) (subst (IsReported _ (at c.now-moment.result)) (sym c.read_clock.ensures) c.now-moment.ensures) _ c.turn-turn.ensures.turns (λ notes e. c.turn-turn.ensures.holds (noted_holds _ _ _ c.holds_replies-holds.ensures notes e))
      _ (λ e. c.turn-turn.ensures.holds (journal_holds g.J.JournalOut.lasting g.J.JournalOut.failed _ _ _ c.holds_replies-holds.ensures e)) c.hear.new.self c.put_back-in-Idle.new.self false c.put_back-in-Idle.ensures.back c.put_back-in-Idle.ensures.queue (λ e. inr (c.in-Idle.ensures.reports.0, inl (c.in-Idle.ensures.reports.1, inl c.in-Idle.ensures.asked)));
  holds = λ key. inl (c.hear.ensures.holds key);
  heard = unheard_turn g.L.Link.incoming g.L.Link.reports (g.N.Network.reported c.args.net.now) _ c.args.self.now.clients.0 c.in-Some.member c.args.self.now.clients.1.0 c.next.new.self.1.0 c.put_back-in-Idle.new.self.1.0 c.in-Some.key (c.millis-millis.result / 1000) c.args.self.now.housekeeping.watches c.hear.new.self c.hear.new.self (seats c.put_back-in-Idle.new.self.0) c.is_heard-is_heard.result
      c.in-Some.ensures.some.first c.in-Some.ensures.some.was c.requires.watched c.hear.ensures.heard (λ k. refl)
      (c.is_heard-is_heard.ensures.1 c.in-Idle.is) (unheard_back g.L.Link.incoming g.L.Link.reports true None c.next.new.self.0 c.put_back-in-Idle.new.self.0 c.in-Some.key _ c.put_back-in-Idle.ensures.back (c.in-Idle.ensures.reports.0, c.in-Idle.ensures.reports.1, c.in-Idle.ensures.asked));
  looked = refl;
  limits = refl;
  watched = watched_back c.args.self.now.clients c.next.new.self c.in-Some.key c.in-Some.member c.in-Some.ensures.some c.put_back-in-Idle.new.self.0 _ c.args.self.now.housekeeping.watches c.hear.new.self c.put_back-in-Idle.ensures.back (length_heard c.args.self.now.housekeeping.watches c.hear.new.self c.in-Some.key _ _ c.hear.ensures.heard) c.requires.watched;
}

pub returns-in-Held : goal.returns-in-Held
returns-in-Held g c = record {
  goes = comes_back g.L.Link.outgoing g.L.Link.incoming g.L.Link.reports _ c.now-moment.result c.args.self.now.clients c.next.new.self c.in-Some.key c.in-Some.member c.in-Some.ensures.some _ c.deref_mut.ensures.value _ _ _ _ _ c.turn-turn.ensures.stays refl refl refl
      _ _ _ (accounts_one _ _ (since c.millis-millis.result) c.millis-millis.ensures) (subst (IsReported _ (at c.now-moment.result)) (sym c.read_clock.ensures) c.now-moment.ensures) _ c.turn-turn.ensures.turns (λ notes e. c.turn-turn.ensures.holds (noted_holds _ _ _ c.holds_replies-holds.ensures notes e))
      _ (λ e. c.turn-turn.ensures.holds (journal_holds g.J.JournalOut.lasting g.J.JournalOut.failed _ _ _ c.holds_replies-holds.ensures e)) c.set_hold.new.self c.put_back-in-Held.new.self false c.put_back-in-Held.ensures.back c.put_back-in-Held.ensures.queue (λ e. inr (c.in-Held.ensures.reports, inr (held_now c.args.self.now.clients.0 c.args.self.now.housekeeping.watches c.hear.new.self c.set_hold.new.self c.in-Some.key c.in-Some.member _ c.in-Some.ensures.some.was c.requires.watched (length_heard c.args.self.now.housekeeping.watches c.hear.new.self c.in-Some.key _ _ c.hear.ensures.heard) c.set_hold.ensures refl, (c.now-moment.result, c.turn-turn.new.server, _, c.in-Held.ensures.held refl))));
  holds = held_after c.args.self.now.clients.1.0 c.args.self.now.housekeeping.watches c.hear.new.self c.set_hold.new.self c.hear.ensures.holds
      (first_held c.hear.new.self c.set_hold.new.self c.in-Some.key _ c.args.self.now.clients.1.0 _ c.in-Some.ensures.some.first c.set_hold.ensures refl);
  heard = heard_turn g.L.Link.incoming g.L.Link.reports (g.N.Network.reported c.args.net.now) _ c.args.self.now.clients.0 c.in-Some.member c.args.self.now.clients.1.0 c.next.new.self.1.0 c.put_back-in-Held.new.self.1.0 c.in-Some.key (c.millis-millis.result / 1000) c.args.self.now.housekeeping.watches c.hear.new.self c.set_hold.new.self (seats c.put_back-in-Held.new.self.0) c.is_heard-is_heard.result
      c.in-Some.ensures.some.first c.in-Some.ensures.some.was c.requires.watched c.hear.ensures.heard (λ k. ap (λ ws. heard_at ws k) c.set_hold.ensures ∙ heard_stays c.hear.new.self c.in-Some.key k _ refl)
      (time_now _ _ _ _ c.millis-millis.result (at c.now-moment.result) c.millis-millis.ensures (subst (IsReported _ (at c.now-moment.result)) (sym c.read_clock.ensures) c.now-moment.ensures) (more_same _ _ refl)) (heard_unless c.is_heard-is_heard.result _ _ c.is_heard-is_heard.ensures c.in-Held.is (λ e. cc))
      (heard_back g.L.Link.incoming g.L.Link.reports _ (hold_at c.set_hold.new.self c.in-Some.key) c.next.new.self.0 c.put_back-in-Held.new.self.0 c.in-Some.key _ c.put_back-in-Held.ensures.back (inr (inr (inl (held_now c.args.self.now.clients.0 c.args.self.now.housekeeping.watches c.hear.new.self c.set_hold.new.self c.in-Some.key c.in-Some.member _ c.in-Some.ensures.some.was c.requires.watched (length_heard c.args.self.now.housekeeping.watches c.hear.new.self c.in-Some.key _ _ c.hear.ensures.heard) c.set_hold.ensures refl)))));
  looked = refl;
  limits = refl;
  watched = watched_back c.args.self.now.clients c.next.new.self c.in-Some.key c.in-Some.member c.in-Some.ensures.some c.put_back-in-Held.new.self.0 _ c.args.self.now.housekeeping.watches c.set_hold.new.self c.put_back-in-Held.ensures.back (length_after c.hear.new.self c.set_hold.new.self c.in-Some.key _ c.set_hold.ensures ∙ length_heard c.args.self.now.housekeeping.watches c.hear.new.self c.in-Some.key _ _ c.hear.ensures.heard) c.requires.watched;
}

pub returns-in-Answered : goal.returns-in-Answered
returns-in-Answered g c = record {
  goes = comes_back g.L.Link.outgoing g.L.Link.incoming g.L.Link.reports _ c.now-moment.result c.args.self.now.clients c.next.new.self c.in-Some.key c.in-Some.member c.in-Some.ensures.some _ c.deref_mut.ensures.value _ _ _ _ _ c.turn-turn.ensures.stays refl refl refl
      _ _ _ (accounts_one _ _ (since c.millis-millis.result) c.millis-millis.ensures) (subst (IsReported _ (at c.now-moment.result)) (sym c.read_clock.ensures) c.now-moment.ensures) _ c.turn-turn.ensures.turns (λ notes e. c.turn-turn.ensures.holds (noted_holds _ _ _ c.holds_replies-holds.ensures notes e))
      _ (λ e. c.turn-turn.ensures.holds (journal_holds g.J.JournalOut.lasting g.J.JournalOut.failed _ _ _ c.holds_replies-holds.ensures e)) c.hear.new.self c.put_back-in-Answered.new.self true c.put_back-in-Answered.ensures.back c.put_back-in-Answered.ensures.queue (λ e. absurd (true≢false e));
  holds = λ key. inl (c.hear.ensures.holds key);
  heard = heard_turn g.L.Link.incoming g.L.Link.reports (g.N.Network.reported c.args.net.now) _ c.args.self.now.clients.0 c.in-Some.member c.args.self.now.clients.1.0 c.next.new.self.1.0 c.put_back-in-Answered.new.self.1.0 c.in-Some.key (c.millis-millis.result / 1000) c.args.self.now.housekeeping.watches c.hear.new.self c.hear.new.self (seats c.put_back-in-Answered.new.self.0) c.is_heard-is_heard.result
      c.in-Some.ensures.some.first c.in-Some.ensures.some.was c.requires.watched c.hear.ensures.heard (λ k. refl)
      (time_now _ _ _ _ c.millis-millis.result (at c.now-moment.result) c.millis-millis.ensures (subst (IsReported _ (at c.now-moment.result)) (sym c.read_clock.ensures) c.now-moment.ensures) (more_same _ _ refl)) (heard_unless c.is_heard-is_heard.result _ _ c.is_heard-is_heard.ensures c.in-Answered.is (λ e. cc))
      (heard_back g.L.Link.incoming g.L.Link.reports _ (hold_at c.hear.new.self c.in-Some.key) c.next.new.self.0 c.put_back-in-Answered.new.self.0 c.in-Some.key _ c.put_back-in-Answered.ensures.back (inl (ap (is_waiting c.in-Some.key) c.put_back-in-Answered.ensures.queue ∙ waits_last c.in-Some.key c.next.new.self.1.0)));
  looked = refl;
  limits = refl;
  watched = watched_back c.args.self.now.clients c.next.new.self c.in-Some.key c.in-Some.member c.in-Some.ensures.some c.put_back-in-Answered.new.self.0 _ c.args.self.now.housekeeping.watches c.hear.new.self c.put_back-in-Answered.ensures.back (length_heard c.args.self.now.housekeeping.watches c.hear.new.self c.in-Some.key _ _ c.hear.ensures.heard) c.requires.watched;
}

pub returns-in-Owing : goal.returns-in-Owing
returns-in-Owing g c = record {
  goes = comes_back g.L.Link.outgoing g.L.Link.incoming g.L.Link.reports _ c.now-moment.result c.args.self.now.clients c.next.new.self c.in-Some.key c.in-Some.member c.in-Some.ensures.some _ c.deref_mut.ensures.value _ _ _ _ _ c.turn-turn.ensures.stays refl refl refl
      _ _ _ (accounts_one _ _ (since c.millis-millis.result) c.millis-millis.ensures) (subst (IsReported _ (at c.now-moment.result)) (sym c.read_clock.ensures) c.now-moment.ensures) _ c.turn-turn.ensures.turns (λ notes e. c.turn-turn.ensures.holds (noted_holds _ _ _ c.holds_replies-holds.ensures notes e))
      _ (λ e. c.turn-turn.ensures.holds (journal_holds g.J.JournalOut.lasting g.J.JournalOut.failed _ _ _ c.holds_replies-holds.ensures e)) c.hear.new.self c.put_back-in-Owing.new.self false c.put_back-in-Owing.ensures.back c.put_back-in-Owing.ensures.queue (λ e. inl (c.in-Owing.ensures.reports, λ held. subst (λ (was : Standing g.row.L.Denot). was.channel.pending ≢ []) c.deref_mut.ensures.value (c.in-Owing.ensures.since (turn_holds g.J.JournalOut.lasting g.J.JournalOut.failed _ _ _ c.holds_replies-holds.ensures held))));
  holds = λ key. inl (c.hear.ensures.holds key);
  heard = heard_turn g.L.Link.incoming g.L.Link.reports (g.N.Network.reported c.args.net.now) _ c.args.self.now.clients.0 c.in-Some.member c.args.self.now.clients.1.0 c.next.new.self.1.0 c.put_back-in-Owing.new.self.1.0 c.in-Some.key (c.millis-millis.result / 1000) c.args.self.now.housekeeping.watches c.hear.new.self c.hear.new.self (seats c.put_back-in-Owing.new.self.0) c.is_heard-is_heard.result
      c.in-Some.ensures.some.first c.in-Some.ensures.some.was c.requires.watched c.hear.ensures.heard (λ k. refl)
      (time_now _ _ _ _ c.millis-millis.result (at c.now-moment.result) c.millis-millis.ensures (subst (IsReported _ (at c.now-moment.result)) (sym c.read_clock.ensures) c.now-moment.ensures) (more_same _ _ refl)) (heard_unless c.is_heard-is_heard.result _ _ c.is_heard-is_heard.ensures c.in-Owing.is (λ e. cc))
      (heard_back g.L.Link.incoming g.L.Link.reports _ (hold_at c.hear.new.self c.in-Some.key) c.next.new.self.0 c.put_back-in-Owing.new.self.0 c.in-Some.key _ c.put_back-in-Owing.ensures.back (inr (inl c.in-Owing.ensures.reports)));
  looked = refl;
  limits = refl;
  watched = watched_back c.args.self.now.clients c.next.new.self c.in-Some.key c.in-Some.member c.in-Some.ensures.some c.put_back-in-Owing.new.self.0 _ c.args.self.now.housekeeping.watches c.hear.new.self c.put_back-in-Owing.ensures.back (length_heard c.args.self.now.housekeeping.watches c.hear.new.self c.in-Some.key _ _ c.hear.ensures.heard) c.requires.watched;
}

pub returns-in_default-clause-goes : goal.returns-in_default-clause-goes
returns-in_default-clause-goes g c = nobody_turns g.L.Link.outgoing g.L.Link.incoming g.L.Link.reports _ _ _ _ _ _ _ _ _ c.in_default.ensures.none.0 c.in_default.ensures.none.1
