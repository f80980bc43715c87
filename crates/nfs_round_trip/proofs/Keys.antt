-- A tree under another key.
use Rattle.std.proofs.Common.{◌≡◌, ℕ, ◌<◌, List, length}
use Rattle.std.specs.Prelude.{slice_index}
use Rattle.nfs_inodes.specs.Changes.{with_key}
use Rattle.nfs_inodes.specs.Law.{Law}
use Rattle.nfs_inodes.specs.Tree.{Tree}
use Rattle.nfs_round_trip.specs.RoundTrip.{KeysStayDescribable}

law_keyed : (t : Tree) (key : List ℕ) → length key ≡ 8 → ((i : ℕ) → slice_index key i < 256) → Law t → Law (with_key t key)
law_keyed t key len bytes law = record {
  numbers = record {
    rising = law.numbers.rising;
    given = law.numbers.given;
    tags = law.numbers.tags;
    some = law.numbers.some;
    last = law.numbers.last;
    key_len = len;
    key_bytes = bytes;
  };
  rising = law.rising;
  sound = law.sound;
  placed = law.placed;
  entries = law.entries;
  absent = law.absent;
  roots = law.roots;
  once = law.once;
  parents = law.parents;
  stands = law.stands;
  homes = law.homes;
  reached = law.reached;
  named = law.named;
  links = law.links;
  limits = law.limits;
  volumes = law.volumes;
  bytes = law.bytes;
  count = law.count;
}

pub keys_stay : KeysStayDescribable
keys_stay t table key len bytes d = record {
  law = law_keyed t key len bytes d.law;
  some = d.some;
  volumes = d.volumes;
  files = d.files;
  lists = d.lists;
  few = d.few;
  exports = d.exports;
}
