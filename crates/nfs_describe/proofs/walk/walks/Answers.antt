use Rattle.std.proofs.Common.{rules, inl, inr, ◌≡◌, ◌+◌, ◌≤◌, [], ◌∷◌, length, slice_get, Some, None, option_map, sym, ap, subst, ◌∙◌, arith}
use Rattle.std.proofs.lemmas.List.{length-append}
use Rattle.std.proofs.lemmas.Option.{slice_get_cases, slice_get_within}
use Rattle.nfs_inodes.specs.Tree.{Volume}
use Rattle.nfs_inodes.specs.Views.{volume_seen}
use Rattle.nfs_describe.specs.Places.{walks_of}
use Rattle.nfs_describe.proofs.Walks.{AreFirst, first_walks_more, none_is, walks_pushed}
use Rattle.nfs_describe.proofs.walk.walks.Goals as goal

pub loop-volume-preserved : goal.loop-volume-preserved
loop-volume-preserved c =
    let here : slice_get c.args.tree.now.volumes (length c.loop-volume.walks.items) ≡ Some (volume_seen c.in-Some.volume) = search rules in
    let long : length c.push.new.self.items ≡ length c.loop-volume.walks.items + 1 =
    ap length c.in_ok-push.ensures.items ∙ length-append c.loop-volume.walks.items (c.in_ok-walk.field-0 ∷ []) in
    let within = slice_get_within c.args.tree.now.volumes (length c.loop-volume.walks.items) (volume_seen c.in-Some.volume) here in
    record {
      within = omega (arith, long, within);
      first = subst (λ n. AreFirst c.args.tree.now n (walks_of c.push.new.self.items)) (sym long)
          (first_walks_more c.args.tree.now (length c.loop-volume.walks.items) c.in-Some.volume.root.0 (walks_of c.loop-volume.walks.items) (walks_of c.push.new.self.items)
          c.in_ok-walk.field-0.items c.loop-volume.invariant.first (ap (option_map (λ (v : Volume). v.root)) here) c.in_ok-walk.ensures
          (walks_pushed c.loop-volume.walks.items c.push.new.self.items c.in_ok-walk.field-0 c.in_ok-push.ensures.items));
    }

pub returns : goal.returns
returns c =
    let past : slice_get c.args.tree.now.volumes (length c.loop-volume.walks.items) ≡ None = search rules in
    let all : length c.args.tree.now.volumes ≤ length c.loop-volume.walks.items =
    elim ((slice_get_cases c.args.tree.now.volumes (length c.loop-volume.walks.items)).1) [
      | inl one ↦ absurd (none_is one.0 (sym past ∙ one.2))
      | inr none ↦ none.0
    ] in
    record {
      each = c.loop-volume.invariant.first.each ∙ (let within = c.loop-volume.invariant.within in omega (arith, all, within));
      walked = c.loop-volume.invariant.first.walked;
    }
