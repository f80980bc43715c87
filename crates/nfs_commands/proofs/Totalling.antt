-- What one volume more adds.
use Rattle.std.proofs.Common.{◌≡◌, ℕ, suc, ◌+◌, ap, subst, ◌∙◌, arith}
use Rattle.nfs_inodes.specs.Tree.{Tree, bytes_of, files_of}
use Rattle.nfs_inodes.specs.declared.volumes.Totals.{Totals}
use Rattle.nfs_commands.specs.Totals.{at_most, bytes_of_first, files_of_first, totals_of_first}

sum_more : (a b : ℕ) → at_most (at_most a + b) ≡ at_most (a + b)
sum_more a b = omega arith

pub one_more : (t : Tree) (n : ℕ) (all new : Totals) → all ≡ totals_of_first t n → new.bytes ≡ at_most (all.bytes + bytes_of n t.files)
    → new.files ≡ at_most (all.files + files_of n t.files) → new ≡ totals_of_first t (n + 1)
one_more t n all new so bytes files =
    let b : new.bytes ≡ at_most (bytes_of_first t n + bytes_of n t.files) =
    bytes ∙ ap (λ (a : Totals). at_most (a.bytes + bytes_of n t.files)) so ∙ sum_more (bytes_of_first t n) (bytes_of n t.files) in
    let f : new.files ≡ at_most (files_of_first t n + files_of n t.files) =
    files ∙ ap (λ (a : Totals). at_most (a.files + files_of n t.files)) so ∙ sum_more (files_of_first t n) (files_of n t.files) in
    let more : suc n ≡ n + 1 = omega arith in
    subst (λ k. new ≡ totals_of_first t k) more (ap (λ (x : ℕ). record { bytes = x; files = new.files }) b ∙ ap (λ (x : ℕ). record { bytes = at_most (bytes_of_first t n + bytes_of n t.files); files = x }) f)
