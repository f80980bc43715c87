use Rattle.std.proofs.Common.{◌≤◌, ℕ, List, [], inl, inr, length, subst, sym, arith}
use Rattle.nfs_source.specs.Sources.{IsRest}
use Rattle.nfs_source.proofs.source.Source.read_from.Goals as goal

pub returns-clause-text : goal.returns-clause-text
returns-clause-text g c =
    let taken = c.in_ok-read_all.ensures.taken in
    let kept = taken.2 [] (c.new-text.ensures.items, omega arith) in
    subst (λ (items : List ℕ). IsRest (g.I.Read.remaining c.args.file.now) items (g.I.Read.remaining c.read_all.new.file))
    (sym {A = List ℕ} kept.0) (taken.1, elim taken.3 [ inl end ↦ end | inr none ↦ absurd none ])

pub returns-clause-short : goal.returns-clause-short
returns-clause-short g c =
    let taken = c.in_ok-read_all.ensures.taken in
    let kept = taken.2 [] (c.new-text.ensures.items, omega arith) in
    subst (λ (items : List ℕ). length items ≤ 1073741824) (sym {A = List ℕ} kept.0) kept.1
