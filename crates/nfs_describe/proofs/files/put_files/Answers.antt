use Rattle.std.proofs.Common.{◌≡◌, ◌++◌, [], get_or, refl, rules}
use Rattle.nfs_describe.specs.Texts.{files_text, kept_name, lent, named_text}
use Rattle.nfs_describe.proofs.Names.{files_at, firsts_at, names_at}
use Rattle.nfs_describe.proofs.files.put_files.Goals as goal

pub loop-place-preserved : goal.loop-place-preserved
loop-place-preserved g c =
    let item : c.place-item.result ≡ get_or c.args.places.now c.loop-place.place-index c.place-item.result = search rules in
    let kept = kept_name c.loop-place.first_names.entries c.place-item.result.number in
    let line = named_text c.args.form c.args.tree.now c.place-item.result kept in
    record {
      written = λ before has.
          let so = c.loop-place.invariant.written before has in (
            so.0 ++ line,
            c.in_ok-put_place.ensures.written so.0 so.1,
            files_at c.args.form c.args.tree.now c.args.places.now c.loop-place.place-index c.place-item.result kept so.0 (before ++ files_text c.args.form c.args.tree.now [] c.args.places.now) (so.0 ++ line)
                c.loop-place-test.true item so.2 refl (c.loop-place.invariant.names c.place-item.result.number),
          );
      firsts = firsts_at c.args.places.now c.loop-place.place-index c.place-item.result kept (lent c.loop-place.firsts.items) _ _
          c.loop-place-test.true item c.loop-place.invariant.firsts c.in_ok-put_place.ensures.firsts (c.loop-place.invariant.names c.place-item.result.number);
      names = λ n. names_at c.args.places.now c.loop-place.place-index n c.place-item.result _ _
          c.loop-place-test.true item (c.loop-place.invariant.names n) (c.in_ok-put_place.ensures.names n);
    }
