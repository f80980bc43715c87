-- Texts that are put one after another.
use Rattle.std.proofs.Common.{◌≡◌, ℕ, suc, ◌+◌, false, List, [], ◌∷◌, ◌++◌, sym, ap, subst, ◌∙◌, append_assoc, append-nil, arith}
use Rattle.std.specs.List.{flat_map}
use Rattle.nfs_words.specs.Texts.{Put, Puts}
use Rattle.nfs_words.proofs.Texts.{puts_then}
use Rattle.nfs_exports.specs.declared.export_table.Export.{Export}
use Rattle.nfs_inodes.specs.Tree.{Tree}
use Rattle.nfs_why.specs.Exports.{lines_of_first, volume_lines}

pub puts_none : (x : Put) → Puts [] x x
puts_none x whole = (whole, sym (append-nil x.bytes))

-- what is put is another way to write it
pub puts_as : (a b : List ℕ) (x y : Put) → a ≡ b → Puts a x y → Puts b x y
puts_as a b x y same puts = subst (λ t. Puts t x y) same puts

pub one_more : (t : Tree) (table : List (List Export)) (n : ℕ) (x y z : Put) → Puts (lines_of_first t table n) x y → Puts (volume_lines t table n) y z
    → Puts (lines_of_first t table (n + 1)) x z
one_more t table n x y z first next =
    let more : suc n ≡ n + 1 = omega arith in
    subst (λ k. Puts (lines_of_first t table k) x z) more (puts_then (lines_of_first t table n) (volume_lines t table n) x y z first next)

-- of some items, those that are left follow what was put of the others
abbrev pub Leaves : {T : Type 0} → (T → List ℕ) → List T → List T → Put → Put → Type 0
Leaves text all left x y = y.is_short ≡ false → (x.is_short ≡ false) × (y.bytes ++ flat_map text left ≡ x.bytes ++ flat_map text all)

pub next_put : {T : Type 0} (text : T → List ℕ) (all left rest : List T) (item : T) (x y z : Put) → Leaves text all left x y → left ≡ item ∷ rest → Puts (text item) y z
    → Leaves text all rest x z
next_put text all left rest item x y z before more puts whole =
    let now = puts whole in
    let old = before now.0 in
    (old.0, ap (λ t. t ++ flat_map text rest) now.1 ∙ append_assoc y.bytes (text item) (flat_map text rest) ∙ ap (λ l. y.bytes ++ flat_map text l) (sym more) ∙ old.1)

pub all_put : {T : Type 0} (text : T → List ℕ) (all left : List T) (x y : Put) → Leaves text all left x y → left ≡ [] → Puts (flat_map text all) x y
all_put text all left x y before none whole =
    let old = before whole in
    (old.0, sym (append-nil y.bytes) ∙ ap (λ l. y.bytes ++ flat_map text l) (sym none) ∙ old.1)
