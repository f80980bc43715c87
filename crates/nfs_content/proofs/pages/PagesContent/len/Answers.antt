use Rattle.std.proofs.Common.{List, ℕ, length, sym, ap, ◌∙◌}
use Rattle.nfs_content.specs.Tables.{pages_of}
use Rattle.nfs_content.proofs.Shown.{shown_len}
use Rattle.nfs_content.proofs.pages.PagesContent.len.Goals as goal

pub returns : goal.returns
returns c = sym (shown_len (pages_of c.self.inside.table) c.self.inside.len) ∙ ap (λ (xs : List ℕ). length xs) c.self.view_is
