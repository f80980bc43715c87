-- Lines that are put one after another.
use Rattle.std.proofs.Common.{◌≡◌, ℕ, suc, ◌+◌, [], sym, subst, append-nil, arith}
use Rattle.nfs_words.specs.Texts.{Put, Puts}
use Rattle.nfs_words.proofs.Texts.{puts_then}
use Rattle.nfs_inodes.specs.Tree.{Tree}
use Rattle.nfs_control.specs.Status.{line_at, lines_of_first}

pub puts_none : (x : Put) → Puts [] x x
puts_none x whole = (whole, sym (append-nil x.bytes))

-- the line of one volume more
pub one_more : (t : Tree) (n : ℕ) (x y z : Put) → Puts (lines_of_first t n) x y → Puts (line_at t n) y z → Puts (lines_of_first t (n + 1)) x z
one_more t n x y z first next =
    let more : suc n ≡ n + 1 = omega arith in
    subst (λ k. Puts (lines_of_first t k) x z) more (puts_then (lines_of_first t n) (line_at t n) x y z first next)
