-- What becomes of the reply cache at a call that may change the tree, and has no reply there.
use Rattle.std.proofs.Common.{◌≡◌, ℕ, true, false, cond, List, Option, None, Some, sym, ap, subst, ◌∙◌}
use Rattle.nfs_reply_cache.specs.Places.{cached_reply, with_reply}
use Rattle.nfs_procs.specs.Scenes.{Scene}
use Rattle.nfs_rpc.specs.Calls.{Call}
use Rattle.nfs_server.specs.Events.{Event, Answer}
use Rattle.nfs_server.specs.Fits.{Held}
use Rattle.nfs_server.specs.OneEvent.{AnswersChange, AnswersCached, PerformsAnew}
use Rattle.nfs_server.specs.Retransmissions.{is_refused, key_of, standing}

module _ (c : Scene) (call : Call) (old : Held) (event : Event) (answer : Answer) (new : Held) (none : cached_reply (key_of event) old.kept ≡ None) (anew : PerformsAnew c call answer old new) where
  by_standing : (reply : Option (List ℕ)) → standing answer ≡ reply → new.kept ≡ with_reply old.setup.places (key_of event) reply old.kept → AnswersChange c call old event answer new
  by_standing reply is kept =
      subst (λ o. AnswersCached true o (PerformsAnew c call answer old new) old event answer new.state new.kept) (sym none)
      (anew, kept ∙ ap (λ o. with_reply old.setup.places (key_of event) o old.kept) (sym is))

  -- there was no memory
  pub cache_stays : is_refused answer.line ≡ true → new.kept ≡ old.kept → AnswersChange c call old event answer new
  cache_stays refused kept = by_standing None (ap (λ b. cond b None answer.reply) refused) kept

  -- the reply is cached
  pub reply_cached : (reply : List ℕ) → is_refused answer.line ≡ false → answer.reply ≡ Some reply → new.kept ≡ with_reply old.setup.places (key_of event) (Some reply) old.kept → AnswersChange c call old event answer new
  reply_cached reply refused reply_is kept = by_standing (Some reply) (ap (λ b. cond b None answer.reply) refused ∙ reply_is) kept
