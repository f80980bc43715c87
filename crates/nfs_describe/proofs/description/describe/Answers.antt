use Rattle.std.proofs.Common.{◌≡◌, ◌<◌, ◌++◌, length, refl, ap, ◌∙◌, arith, rules}
use Rattle.nfs_inodes.specs.Changes.{with_key}
use Rattle.nfs_inodes.specs.declared.limits.Limits.{Limits}
use Rattle.nfs_describe.specs.Lines.{limits_line, names_line, server_line}
use Rattle.nfs_describe.specs.Places.{form_for, walks_of}
use Rattle.nfs_describe.proofs.Outputs.{takes_then}
use Rattle.nfs_describe.proofs.Volumes.{all_said, keyed, says_more, text_at}
use Rattle.nfs_describe.proofs.description.describe.Goals as goal

pub loop-place-init : goal.loop-place-init
loop-place-init g c = record {
  within = omega arith;
  end = search rules;
  walked = keyed c.args.tree.now c.args.key (walks_of c.in_ok-walks.walks.items) c.in_ok-walks.ensures;
  form = c.form_for-form.ensures ∙ ap (λ walks. form_for c.args.tree.now (walks_of walks)) c.as_slice.ensures.value;
  says = (
    server_line c.args.key ++ limits_line c.limits.result ++ names_line c.form_for-form.result,
    ap (λ (limits : Limits). server_line c.args.key ++ limits_line limits ++ names_line c.form_for-form.result) c.limits.ensures,
    c.in_ok-put_head.ensures,
  );
}

pub loop-place-preserved : goal.loop-place-preserved
loop-place-preserved g c =
    let inside : c.loop-place.place < length c.in_ok-walks.walks.items = omega (arith, c.loop-place-test.true, c.loop-place.invariant.end) in
    let t = with_key c.args.tree.now c.args.key in
    let was = c.loop-place.invariant.says in
    let part = text_at c.form_for-form.result t c.args.table.now c.loop-place.place c.as_slice-in-loop-place.result.now in
    record {
      within = omega (arith, inside);
      end = c.loop-place.invariant.end;
      walked = c.loop-place.invariant.walked;
      form = c.loop-place.invariant.form;
      says = (
        was.0 ++ part,
        says_more t c.args.table.now c.form_for-form.result c.in_ok-walks.walks.items c.index.result.now c.as_slice-in-loop-place.result.now c.loop-place.place
            was.0 (was.0 ++ part) c.loop-place.invariant.walked c.loop-place.invariant.form inside c.index.ensures c.as_slice-in-loop-place.ensures.value was.1 refl,
        takes_then g.O.Output.has c.args.out.now c.loop-place.out c.put_volume.new.out was.0 part was.2 c.in_ok-put_volume.ensures,
      );
    }

pub returns : goal.returns
returns g c =
    let all : c.loop-place.place ≡ length c.in_ok-walks.walks.items = omega (arith, c.loop-place-test.false, c.loop-place.invariant.end, c.loop-place.invariant.within) in
    let was = c.loop-place.invariant.says in (
      was.0,
      all_said (with_key c.args.tree.now c.args.key) c.args.table.now c.form_for-form.result c.in_ok-walks.walks.items c.loop-place.place was.0
          c.loop-place.invariant.walked c.loop-place.invariant.form all was.1,
      was.2,
    )
