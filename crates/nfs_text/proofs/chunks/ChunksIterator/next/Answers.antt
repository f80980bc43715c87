use Rattle.std.proofs.Common.{[], List, ℕ, length, Option, arith, ap, ◌∙◌}
use Rattle.std.specs.Borrow.{Bor}
use Rattle.std.specs.Option.{option_map_or}
use Rattle.nfs_text.specs.Chunks.{chunks}
use Rattle.nfs_text.proofs.Cuts.{chunks_step}
use Rattle.nfs_text.proofs.chunks.ChunksIterator.next.Goals as goal

pub returns-clause-steps : goal.returns-clause-steps
returns-clause-steps c =
    ap (λ (r : Option (Bor (List ℕ))). option_map_or (λ t. chunks c.args.self.now.separator t.now) r []) c.in_ok-self.was ∙ chunks_step _ _ _ _ c.cut.ensures

pub returns-clause-goes : goal.returns-clause-goes
returns-clause-goes c = record { on = λ _. (tt, tt, omega (arith, ap length (returns-clause-steps c))); keeps = tt; rests = λ _. tt }
