use Rattle.std.proofs.Common.{◌∙◌, List, ℕ, ap}
use Rattle.nfs_content.specs.Bytes.{sized}
use Rattle.nfs_content.specs.Tables.{pages_of}
use Rattle.nfs_content.proofs.Shown.{sized_none, cut_shown, grown_shown}
use Rattle.nfs_content.proofs.pages.PagesContent.set_len.Goals as goal

pub returns-then-len-eq0-clause-ok : goal.returns-then-len-eq0-clause-ok
returns-then-len-eq0-clause-ok c = c.zeros-then-len-eq0.view_is ∙ c.zeros.ensures ∙ sized_none c.args.self.now c.args.len c.if-len-eq0.true

pub invariant_of-self : goal.invariant_of-self
invariant_of-self c = c.zeros-then-len-eq0.invariant

pub returns-then-len-self-clause-ok : goal.returns-then-len-self-clause-ok
returns-then-len-self-clause-ok c = cut_shown (pages_of c.self.inside.table) (pages_of c.cut.new.table) c.self.inside.len c.self.invariant c.args.len c.cut.ensures.cuts
    ∙ ap (λ (xs : List ℕ). sized xs c.args.len) c.self.view_is

pub returns-clause-ok : goal.returns-clause-ok
returns-clause-ok c = grown_shown (pages_of c.self.inside.table) c.self.inside.len c.args.len c.self.invariant ∙ ap (λ (xs : List ℕ). sized xs c.args.len) c.self.view_is
