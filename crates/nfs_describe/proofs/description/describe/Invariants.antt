use Rattle.std.proofs.Common.{◌≡◌, ℕ, List, ◌≤◌, length}
use Rattle.nfs_inodes.specs.Changes.{with_key}
use Rattle.nfs_describe.specs.Outputs.{Takes}
use Rattle.nfs_describe.specs.Places.{AreWalks, form_for, walks_of}
use Rattle.nfs_describe.specs.Texts.{SaysTo}
use Rattle.nfs_describe.proofs.description.describe.Given as goal

abbrev pub invariant-loop-place : goal.invariant-loop-place
invariant-loop-place g l = record {
  within : l.place ≤ length l.walks.items;
  end : l.place-end ≡ length l.walks.items;
  walked : AreWalks (with_key l.tree l.fn.key) (walks_of l.walks.items);
  form : l.described.form ≡ form_for (with_key l.tree l.fn.key) (walks_of l.walks.items);
  says : (text : List ℕ) × SaysTo l.described.form (with_key l.tree l.fn.key) l.table l.place text × Takes g.O.Output.has l.fn.out text l.out;
}
