use Rattle.std.proofs.Common.{true, false, min, refl}
use Rattle.nfs_args.specs.Sizes.{max_page}
use Rattle.nfs_rules.proofs.Pages.{below_by_rule}
use Rattle.nfs_rules.proofs.subject.Subject.first_must_fit.Goals as goal

pub returns-in-Ok-clause-rule : goal.returns-in-Ok-clause-rule
returns-in-Ok-clause-rule c = below_by_rule _ c.args.self.now c.self.view_is c.args.cookie (min c.args.count max_page) 0 0 refl false c.in-Ok.ensures.large

pub returns-in-Err-clause-rule : goal.returns-in-Err-clause-rule
returns-in-Err-clause-rule c = (below_by_rule _ c.args.self.now c.self.view_is c.args.cookie (min c.args.count max_page) 0 0 refl true c.in-Err.ensures, refl)
