use Rattle.std.proofs.Common.{ap, true, false, min, refl}
use Rattle.nfs_args.specs.Sizes.{max_page}
use Rattle.nfs_dirs.specs.Pages.{plus_bytes}
use Rattle.nfs_rules.proofs.Pages.{below_by_rule}
use Rattle.nfs_rules.proofs.subject.Subject.first_must_fit_plus.Goals as goal

pub returns-in-Ok-clause-rule : goal.returns-in-Ok-clause-rule
returns-in-Ok-clause-rule c = below_by_rule _ c.args.self.now c.self.view_is c.args.cookie (min c.args.maxcount max_page) _ _ (ap plus_bytes c.may_search-searchable.ensures) false c.in-Ok.ensures.opens.large

pub returns-in-Err-clause-rule : goal.returns-in-Err-clause-rule
returns-in-Err-clause-rule c = (below_by_rule _ c.args.self.now c.self.view_is c.args.cookie (min c.args.maxcount max_page) _ _ (ap plus_bytes c.may_search-searchable.ensures) true c.in-Err.ensures.opens, refl)
