-- The law of a tree with another key, a greater next number, or other limits.
use Rattle.std.proofs.Common.{◌≡◌, ℕ, ◌^◌, ◌<◌, ◌≤◌, List, [], ◌∷◌, All, length, ap, sym, subst, arith}
use Rattle.std.specs.Prelude.{slice_index}
use Rattle.std.specs.Map.{keys_of}
use Rattle.std.proofs.lemmas.List.Elements.{All-nil, All-weaker}
use Rattle.std.proofs.lemmas.Option.{slice_get_within}
use Rattle.nfs_handles.specs.NumberedFiles.{IsGiven, IsNumbered}
use Rattle.nfs_inodes.specs.declared.limits.Limits.{Limits}
use Rattle.nfs_inodes.specs.Limits.{AreLimits}
use Rattle.nfs_inodes.specs.Tree.{Tree, File}
use Rattle.nfs_inodes.specs.Law.{AreRising, IsWithin, Law, Lives}
use Rattle.nfs_inodes.specs.Reading.{numbered_files}
use Rattle.nfs_inodes.specs.Counts.{CountedTree, Agrees, tree_in}

rising_below : {X : Type 0} (low next more : ℕ) (es : List (ℕ × X)) → next ≤ more → AreRising low es next → AreRising low es more
rising_below low next more [] le rising = omega (arith, le, rising)
rising_below low next more (e ∷ es) le rising = (rising.0, rising_below e.0 next more es le rising.1)

-- 8 bytes
pub record IsKey (key : List ℕ) : Type 0 where
  pub len : length key ≡ 8
  pub bytes : (i : ℕ) → slice_index key i < 256

given_below : (next more n : ℕ) → next ≤ more → IsGiven next n → IsGiven more n
given_below next more n le g = record { counted = g.counted; below = omega (arith, le, g.below) }

numbers_opened : (t : Tree) (next : ℕ) (key : List ℕ) → t.next ≤ next → next < 2 ^ 64 → IsKey key → IsNumbered (numbered_files t) → IsNumbered (numbered_files (record t { next = next; key = key }))
numbers_opened t next key le fits is h = record {
  rising = h.rising;
  given = All-weaker (IsGiven t.next) (IsGiven next) (λ n. given_below t.next next n le) (keys_of (numbered_files t).files) h.given;
  tags = h.tags;
  some = omega (arith, le, h.some);
  last = fits;
  key_len = is.len;
  key_bytes = is.bytes;
}

law_opened : (t : Tree) (next : ℕ) (key : List ℕ) → t.next ≤ next → next < 2 ^ 64 → IsKey key → Law t → Law (record t { next = next; key = key })
law_opened t next key le fits is law = record {
  numbers = numbers_opened t next key le fits is law.numbers;
  rising = rising_below 0 t.next next t.files le law.rising;
  sound = law.sound;
  placed = law.placed;
  entries = law.entries;
  absent = law.absent;
  roots = law.roots;
  once = law.once;
  parents = law.parents;
  stands = law.stands;
  homes = law.homes;
  reached = law.reached;
  named = law.named;
  links = law.links;
  volumes = law.volumes;
  limits = law.limits;
  bytes = law.bytes;
  count = law.count;
}

-- the key of a lawful tree
pub key_of : (k : CountedTree) → Agrees k → IsKey k.key
key_of k a = record { len = a.law.numbers.key_len; bytes = a.law.numbers.key_bytes }

pub agrees_opened : (k : CountedTree) (next : ℕ) (key : List ℕ) → k.next ≤ next → next < 2 ^ 64 → IsKey key → Agrees k → Agrees (record k { next = next; key = key })
agrees_opened k next key le fits is a = record {
  law = law_opened (tree_in k) next key le fits is a.law;
  links = a.links;
  totals = a.totals;
  limits = a.limits;
}

-- ---- a tree without volumes

-- it has no files
no_file : {P : Type 0} (t : Tree) → Law t → t.volumes ≡ [] → (n : ℕ) (f : File) → Lives t n f → P
no_file t law none n f at_n =
    let l = law.placed n f at_n in
    let low = slice_get_within t.volumes f.volume l.0 l.1 in
    let empty = ap length none in
    absurd (omega (arith, low, empty))

pub law_limited : (t : Tree) (limits : Limits) → AreLimits limits → t.volumes ≡ [] → Law t → Law (record t { limits = limits })
law_limited t limits are none law = record {
  numbers = law.numbers;
  rising = law.rising;
  sound = λ n f e. no_file t law none n f e;
  placed = law.placed;
  entries = law.entries;
  absent = law.absent;
  roots = law.roots;
  once = law.once;
  parents = law.parents;
  stands = law.stands;
  homes = law.homes;
  reached = law.reached;
  named = law.named;
  links = λ n f e. no_file t law none n f e;
  limits = are;
  volumes = record {
    few = law.volumes.few;
    within = subst (All (IsWithin limits)) (sym none) (All-nil (IsWithin limits));
    paths = law.volumes.paths;
    apart = law.volumes.apart;
  };
  bytes = law.bytes;
  count = law.count;
}

pub agrees_limited : (k : CountedTree) (limits : Limits) → AreLimits limits → (tree_in k).volumes ≡ [] → Agrees k → Agrees (record k { limits = limits })
agrees_limited k limits are none a = record {
  law = law_limited (tree_in k) limits are none a.law;
  links = a.links;
  totals = a.totals;
  limits = a.limits;
}
