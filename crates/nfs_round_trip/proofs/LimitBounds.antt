-- The limits that a line sets are limits that a tree may have.
use Rattle.std.proofs.Common.{◌≡◌, ℕ, ◌≤◌, List, [], ◌∷◌, length, nat_eq, Option, Some, None, Ok, refl, sym, ap, subst, ◌∙◌, arith}
use Rattle.std.specs.Prelude.{Err, bytes_eq, codes, if◌then◌else◌, nat_le}
use Rattle.std.proofs.lemmas.Bool.{eqb-true, leb-true}
use Rattle.nfs_text.specs.Numbers.{decimal_of}
use Rattle.nfs_text.specs.Chunks.{cut}
use Rattle.nfs_inodes.specs.Limits.{AreLimits, default_limits, max_file_bytes, max_files, max_links, max_path_bytes}
use Rattle.nfs_inodes.specs.Tree.{Tree, Volume}
use Rattle.nfs_inodes.specs.declared.limits.Limits.{Limits}
use Rattle.nfs_inodes.proofs.Lists.{by_test}
use Rattle.nfs_load.specs.Descriptions.{early_limits}
use Rattle.nfs_load.specs.Fields.{◌>>=◌, at_least, number_in}
use Rattle.nfs_load.specs.LimitFields.{limit_in, limit_number, limit_of, limits_in, with_limit}
use Rattle.nfs_load.specs.declared.cause.Cause.{Cause}
use Rattle.nfs_load.specs.declared.cause.Cause.TheVariants.{BadLimit, BadNumber, LimitsLate}
use Rattle.nfs_round_trip.proofs.Bounds.{bind_is, err_is, if_ok, number_bound}
use Rattle.nfs_round_trip.proofs.Runs.{same_ok}

number_least : (min max : ℕ) (field : List ℕ) (n : ℕ) → number_in min max field ≡ Ok n → min ≤ n
number_least min max field n e = from (decimal_of max field) e
  where
    from : (o : Option ℕ) → at_least min o ≡ Ok n → min ≤ n
    from None e = cc
    from (Some m) e = by_test (nat_le min m)
        (λ y.
        let same : m ≡ n = same_ok (at_least min (Some m)) m n (ap (λ b. if b then Ok m else Err BadNumber) y) e in
        let low = leb-true min m y in omega (arith, same, low))
        (λ o. absurd (err_is (at_least min (Some m)) BadNumber n (ap (λ b. if b then Ok m else Err BadNumber) o) e))

no : {A P : Type 0} (cause : Cause) (a : A) → Err cause ≡ Ok a → P
no cause a e = cc

bounded : (default old least most : ℕ) (text : List ℕ) (n : ℕ) → limit_number default old least most text ≡ Ok n → (least ≤ n) × (n ≤ most)
bounded default old least most text n e = if_ok (nat_eq old default) (number_in least most text) (Err BadLimit) n
    (λ is. (number_least least most text n is, number_bound least most text n is)) (no BadLimit n) e

one : (default old least most : ℕ) (text : List ℕ) (set : ℕ → Limits) (new : Limits) → ((n : ℕ) → (least ≤ n) × (n ≤ most) → AreLimits (set n))
    → limit_number default old least most text >>= (λ (n : ℕ). Ok (set n)) ≡ Ok new → AreLimits new
one default old least most text set new each e =
    let b = bind_is (limit_number default old least most text) (λ (n : ℕ). Ok (set n)) new e in
    subst AreLimits (same_ok {E = Cause} (Ok (set b.0)) (set b.0) new refl b.2) (each b.0 (bounded default old least most text b.0 b.1))

named : (old : Limits) (name text : List ℕ) (new : Limits) → AreLimits old → with_limit old name text ≡ Ok new → AreLimits new
named old name text new are e =
    if_ok (bytes_eq name (codes "file-size")) _ _ new
    (one default_limits.file_size old.file_size 0 max_file_bytes text (λ n. record old { file_size = n }) new
    (λ n in_bounds. record { file_size = in_bounds.1; links_2 = are.links_2; links = are.links; link_path = are.link_path; files = are.files }))
    (λ rest. if_ok (bytes_eq name (codes "links")) _ _ new
    (one default_limits.links old.links 2 max_links text (λ n. record old { links = n }) new
    (λ n in_bounds. record { file_size = are.file_size; links_2 = in_bounds.0; links = in_bounds.1; link_path = are.link_path; files = are.files }))
    (λ rest. if_ok (bytes_eq name (codes "link-path")) _ _ new
    (one default_limits.link_path old.link_path 0 max_path_bytes text (λ n. record old { link_path = n }) new
    (λ n in_bounds. record { file_size = are.file_size; links_2 = are.links_2; links = are.links; link_path = in_bounds.1; files = are.files }))
    (λ rest. if_ok (bytes_eq name (codes "files")) _ _ new
    (one default_limits.files old.files 0 max_files text (λ n. record old { files = n }) new
    (λ n in_bounds. record { file_size = are.file_size; links_2 = are.links_2; links = are.links; link_path = are.link_path; files = in_bounds.1 }))
    (no BadLimit new) rest) rest) rest) e

kept : (old : Limits) (field : List ℕ) (new : Limits) → AreLimits old → limit_in old field ≡ Ok new → AreLimits new
kept old field new are e = of (cut 61 field).1 e
  where
    of : (o : Option (List ℕ)) → limit_of old (cut 61 field).0 o ≡ Ok new → AreLimits new
    of None e = cc
    of (Some text) e = named old (cut 61 field).0 text new are e

pub limits_kept : (old : Limits) (fields : List (List ℕ)) (new : Limits) → AreLimits old → limits_in old fields ≡ Ok new → AreLimits new
limits_kept old [] new are e = subst AreLimits (same_ok {E = Cause} (Ok old) old new refl e) are
limits_kept old (field ∷ fields) new are e =
    let b = bind_is (limit_in old field) (λ (limits : Limits). limits_in limits fields) new e in
    limits_kept b.0 fields new (kept old field b.0 are b.1) b.2

nothing : (vs : List Volume) → length vs ≡ 0 → vs ≡ []
nothing [] e = refl
nothing (v ∷ vs) e = absurd (omega (arith, e))

-- limits are set while there is no volume
pub early : (t : Tree) (fields : List (List ℕ)) (limits : Limits) → early_limits t fields ≡ Ok limits → (t.volumes ≡ []) × (limits_in t.limits fields ≡ Ok limits)
early t fields limits e = by_test (nat_eq (length t.volumes) 0)
    (λ y. (nothing t.volumes (eqb-true (length t.volumes) 0 y), sym (ap (λ b. if b then limits_in t.limits fields else Err LimitsLate) y) ∙ e))
    (λ o. absurd (err_is (early_limits t fields) LimitsLate limits (ap (λ b. if b then limits_in t.limits fields else Err LimitsLate) o) e))
