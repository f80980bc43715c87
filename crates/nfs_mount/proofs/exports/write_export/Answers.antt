use Rattle.std.proofs.Common.{◌≡◌, ◌+◌, length, map, refl, arith}
use Rattle.std.specs.List.{range_with_len}
use Rattle.nfs_args.specs.MountAnswers.{IsExported, exported_text}
use Rattle.nfs_mount.specs.MountAnswers.{exported_at}
use Rattle.nfs_mount.proofs.Listed.{place_appended, places_ended, place_encoded, places_encoded}
use Rattle.nfs_mount.proofs.Patterns.{count_more, count_within}
use Rattle.nfs_mount.proofs.exports.write_export.Goals as goal

pub write_volume-requires : goal.write_volume-requires
write_volume-requires c =
    let more = count_more c.args.table.now c.loop-index.index in
    let within = count_within c.args.table.now (c.loop-index.index + 1) in
    omega (arith, more, within, c.law-2.ensures, c.law.ensures.volumes.few, c.loop-index-test.true, c.volumes-index-end.ensures, c.loop-index.invariant.room, c.requires)

pub loop-index-preserved : goal.loop-index-preserved
loop-index-preserved c = record {
  text = place_appended exported_text (exported_at c.args.tree.now c.args.table.now) c.loop-index.index c.args.out.now c.loop-index.out c.write_volume.new.out c.loop-index.invariant.text c.write_volume.ensures.text;
  encoded = place_encoded exported_text IsExported (exported_at c.args.tree.now c.args.table.now) c.loop-index.index c.loop-index.invariant.encoded c.write_volume.ensures.encoded;
  room = let more = count_more c.args.table.now c.loop-index.index in omega (arith, more, c.loop-index.invariant.room, c.write_volume.ensures.room);
}

pub write_chain_end-requires : goal.write_chain_end-requires
write_chain_end-requires c =
    let within = count_within c.args.table.now c.loop-index.index in
    omega (arith, within, c.law-2.ensures, c.law.ensures.volumes.few, c.loop-index.auto.index-end, c.volumes-index-end.ensures, c.loop-index.invariant.room, c.requires)

pub returns-clause-text : goal.returns-clause-text
returns-clause-text c =
    let all : c.loop-index.index ≡ length c.args.tree.now.volumes = omega (arith, c.loop-index-test.false, c.loop-index.auto.index-end, c.volumes-index-end.ensures) in
    places_ended exported_text (exported_at c.args.tree.now c.args.table.now) c.loop-index.index (length c.args.tree.now.volumes) c.args.out.now c.loop-index.out c.write_chain_end.new.out all c.loop-index.invariant.text c.write_chain_end.ensures.text

pub returns-clause-encoded : goal.returns-clause-encoded
returns-clause-encoded c =
    let all : c.loop-index.index ≡ length c.args.tree.now.volumes = omega (arith, c.loop-index-test.false, c.loop-index.auto.index-end, c.volumes-index-end.ensures) in
    let volumes = map (exported_at c.args.tree.now c.args.table.now) (range_with_len 0 (length c.args.tree.now.volumes)) in
    (volumes, refl, places_encoded exported_text IsExported (exported_at c.args.tree.now c.args.table.now) c.loop-index.index (length c.args.tree.now.volumes) all c.loop-index.invariant.encoded)

pub returns-clause-bound : goal.returns-clause-bound
returns-clause-bound c = let text = returns-clause-text c in
    let within = count_within c.args.table.now c.loop-index.index in
    omega (arith, text.room, within, c.law-2.ensures, c.law.ensures.volumes.few, c.loop-index.auto.index-end, c.volumes-index-end.ensures, c.loop-index.invariant.room, c.write_chain_end.ensures.text.room)
