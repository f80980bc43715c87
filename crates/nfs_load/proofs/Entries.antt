-- The texts of the files of a tree.
use Rattle.std.proofs.Common.{◌≡◌, ℕ, suc, ◌≤◌, List, [], ◌∷◌, length, Option, Some, None, option_map, refl, sym, ap, subst, ◌∙◌, arith}
use Rattle.std.specs.Prelude.{All}
use Rattle.std.proofs.lemmas.List.Elements.{All-head}
use Rattle.nfs_attrs.specs.declared.fattr.Fattr.{Fattr}
use Rattle.nfs_inodes.specs.Tree.{Tree, File, Entry, Kind, at, entries_in, nlink, on_some}
use Rattle.nfs_inodes.specs.Law.{Law}
use Rattle.nfs_inodes.specs.Reading.{attributes_of}
use Rattle.nfs_inodes.specs.Views.{IsSeen, kind_seen}
use Rattle.nfs_inodes.specs.Views.{FileView}
use Rattle.nfs_load.specs.Listings.{file_text, text_at, view_text}

abbrev pub AreShort : List Entry → Type 0
AreShort es = All (λ (e : Entry). length e.name ≤ 255) es

-- what is true of all is true of those after the first
pub all_after : (e : Entry) (rest es : List Entry) → es ≡ e ∷ rest → AreShort es → AreShort rest
all_after e rest es is all = after (subst AreShort is all)
  where
    after : AreShort (e ∷ rest) → AreShort rest
    after all k d less = all (suc k) d (omega (arith, less))

-- and of the first
pub first_of : (e : Entry) (rest es : List Entry) → es ≡ e ∷ rest → AreShort es → length e.name ≤ 255
first_of e rest es is all = All-head (λ (e : Entry). length e.name ≤ 255) e rest (subst AreShort is all)

same : {X : Type 0} (a b : X) → Some a ≡ Some b → a ≡ b
same a b e = cc

none_is : {X : Type 0} (a : X) → None ≡ Some a → ⊥
none_is a e = cc

-- ---- one file

seen_text : (t : Tree) (n : ℕ) (o : Option File) (a : Fattr) (k : Kind) → option_map (λ f. attributes_of n f (nlink t.files n f)) o ≡ Some a → on_some o None (λ f. Some f.kind) ≡ Some k
    → on_some o [] (λ f. file_text (attributes_of n f (nlink t.files n f)) (entries_in f.kind)) ≡ file_text a (entries_in k)
seen_text t n None a k attributes kind = absurd (none_is a attributes)
seen_text t n (Some f) a k attributes kind = ap (λ b. file_text b (entries_in f.kind)) (same _ _ attributes) ∙ ap (λ l. file_text a (entries_in l)) (same _ _ kind)

pub text_seen : (t : Tree) (v : FileView) (n : ℕ) → v.attributes.fileid ≡ n → IsSeen t v → text_at t n ≡ view_text v
text_seen t v n is seen = ap (text_at t) (sym is) ∙ seen_text t v.attributes.fileid (at v.attributes.fileid t.files) v.attributes (kind_seen v) seen.0 seen.1

-- ---- names

kind_lives : (o : Option File) (k : Kind) → on_some o None (λ f. Some f.kind) ≡ Some k → (f : File) × (o ≡ Some f) × (f.kind ≡ k)
kind_lives None k e = absurd (none_is k e)
kind_lives (Some f) k e = (f, refl, same f.kind k e)

pub names_are_short : (t : Tree) (v : FileView) → Law t → IsSeen t v → AreShort (entries_in (kind_seen v))
names_are_short t v law seen =
    let f = kind_lives (at v.attributes.fileid t.files) (kind_seen v) seen.1 in
    subst (λ (k : Kind). AreShort (entries_in k)) f.2 (λ i d less. ((law.sound v.attributes.fileid f.0 f.1).names i d less).few)
