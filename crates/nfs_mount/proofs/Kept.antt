-- What holds of every mount list.
use Rattle.std.proofs.Common.{◌≡◌, ℕ, ◌-◌, ◌<◌, ◌≤◌, Bool, true, false, cond, not, ◌&&◌, ◌||◌, List, [], ◌∷◌, ◌++◌, length, drop, Option, Some, None, filter, is_some, refl, sym, ap, ◌∙◌, arith}
use Rattle.std.specs.Prelude.{nat_eq, All}
use Rattle.std.specs.List.{list_any}
use Rattle.std.proofs.lemmas.Bool.{true≢false}
use Rattle.std.proofs.lemmas.Bool.Decides.{Decides-eqb}
use Rattle.std.proofs.lemmas.List.{length-append, drop-append-le}
use Rattle.std.proofs.lemmas.List.Elements.{All-filter, All-drop, All-push}
use Rattle.nfs_exports.specs.declared.addr.Addr.{Addr}
use Rattle.nfs_inodes.specs.Reading.{volume_named}
use Rattle.nfs_inodes.specs.Tree.{Tree, on_some}
use Rattle.nfs_mount.specs.Mounts.{max_mounts, pair, same, is_in, is_of_another, newest, with_mount, without_mount, without_addr, after_mnt, after_umnt}
use Rattle.nfs_mount.specs.Laws.{AreOfVolumes, KeepsVolumes, AreMounted}
use Rattle.nfs_mount.specs.declared.mount.Mount.{Mount}
use Rattle.nfs_mount.proofs.Pairs.{same_self}
use Rattle.nfs_mount.proofs.Places.{index_within}

-- ---- the volumes of pairs

with_kept : (P : Mount → Type 0) (m : Mount) (mounts : List Mount) (b : Bool) → P m → All P mounts → All P (cond b mounts (newest max_mounts (mounts ++ m ∷ [])))
with_kept P m mounts true here all = all
with_kept P m mounts false here all = All-drop P (length (mounts ++ m ∷ []) - max_mounts) (mounts ++ m ∷ []) (All-push P mounts m all here)

mnt_kept : (t : Tree) (addr : Addr) (path : List ℕ) (mounts : List Mount) → AreOfVolumes t mounts → AreOfVolumes t (after_mnt t addr path mounts)
mnt_kept t addr path mounts all = by (volume_named t path) refl
  where
    by : (o : Option ℕ) → volume_named t path ≡ o → AreOfVolumes t (on_some o mounts (λ index. with_mount (pair addr index) mounts))
    by None e = all
    by (Some index) e = with_kept (λ m. m.volume < length t.volumes) (pair addr index) mounts (is_in (pair addr index) mounts) (index_within _ t.volumes index e) all

umnt_kept : (t : Tree) (addr : Addr) (path : List ℕ) (mounts : List Mount) → AreOfVolumes t mounts → AreOfVolumes t (after_umnt t addr path mounts)
umnt_kept t addr path mounts all = by (volume_named t path)
  where
    by : (o : Option ℕ) → AreOfVolumes t (on_some o mounts (λ index. without_mount (pair addr index) mounts))
    by None = all
    by (Some index) = All-filter (λ n. not (same (pair addr index) n)) (λ m. m.volume < length t.volumes) mounts all

pub volumes_kept : KeepsVolumes
volumes_kept = record {
  mnt = mnt_kept;
  umnt = umnt_kept;
  umnt_all = λ t addr mounts all. All-filter (is_of_another addr) (λ m. m.volume < length t.volumes) mounts all;
}

-- ---- which volumes are mounted

last_in : (m : Mount) (mounts : List Mount) → list_any (same m) (mounts ++ m ∷ []) ≡ true
last_in m [] = ap (λ b. b || false) (same_self m)
last_in m (n ∷ mounts) = either (same m n) (last_in m mounts)
  where
    either : (b : Bool) {c : Bool} → c ≡ true → (b || c) ≡ true
    either true e = refl
    either false e = e

-- the last stays where some of the first go
last_left : (m : Mount) (k : ℕ) (mounts : List Mount) → k ≤ length mounts → list_any (same m) (drop k (mounts ++ m ∷ [])) ≡ true
last_left m k mounts few = ap (list_any (same m)) (drop-append-le k mounts (m ∷ []) few) ∙ last_in m (drop k mounts)

not_in_without : (p : Mount → Bool) (m : Mount) (mounts : List Mount) → ((n : Mount) → p n ≡ true → same m n ≡ false) → list_any (same m) (filter p mounts) ≡ false
not_in_without p m [] apart = refl
not_in_without p m (n ∷ mounts) apart = by (p n) refl (not_in_without p m mounts apart)
  where
    by : (b : Bool) → p n ≡ b → list_any (same m) (filter p mounts) ≡ false → list_any (same m) (cond b (n ∷ filter p mounts) (filter p mounts)) ≡ false
    by true e rest = ap (λ c. c || list_any (same m) (filter p mounts)) (apart n e) ∙ rest
    by false e rest = rest

not_true : (b : Bool) → not b ≡ true → b ≡ false
not_true true e = sym e
not_true false e = refl

with_in : (m : Mount) (mounts : List Mount) (b : Bool) → is_in m mounts ≡ b → is_in m (cond b mounts (newest max_mounts (mounts ++ m ∷ []))) ≡ true
with_in m mounts true e = e
with_in m mounts false e = let n = length-append mounts (m ∷ []) in last_left m (length (mounts ++ m ∷ []) - max_mounts) mounts (omega (arith, n))

after_mounted : (addr : Addr) (mounts : List Mount) (o : Option ℕ) (index : ℕ) → o ≡ Some index → on_some o false (λ p. is_in (pair addr p) (on_some o mounts (λ q. with_mount (pair addr q) mounts))) ≡ true
after_mounted addr mounts None index e = absurd (true≢false (sym (ap is_some e)))
after_mounted addr mounts (Some p) index e = with_in (pair addr p) mounts (is_in (pair addr p) mounts) refl

mounted_again : (addr : Addr) (mounts : List Mount) (o : Option ℕ) → on_some o false (λ p. is_in (pair addr p) mounts) ≡ true → on_some o mounts (λ q. with_mount (pair addr q) mounts) ≡ mounts
mounted_again addr mounts None e = refl
mounted_again addr mounts (Some p) e = ap (λ b. cond b mounts (newest max_mounts (mounts ++ pair addr p ∷ []))) e

after_unmounted : (addr : Addr) (mounts : List Mount) (o : Option ℕ) → on_some o false (λ p. is_in (pair addr p) (on_some o mounts (λ q. without_mount (pair addr q) mounts))) ≡ false
after_unmounted addr mounts None = refl
after_unmounted addr mounts (Some p) = not_in_without (λ n. not (same (pair addr p) n)) (pair addr p) mounts (λ n e. not_true (same (pair addr p) n) e)

apart : (addr : Addr) (index : ℕ) (n : Mount) → is_of_another addr n ≡ true → same (pair addr index) n ≡ false
apart addr index n other = by (nat_eq addr.0 n.addr.0) refl
  where
    by : (b : Bool) → nat_eq addr.0 n.addr.0 ≡ b → (nat_eq addr.0 n.addr.0 && nat_eq index n.volume) ≡ false
    by true e = absurd (true≢false (sym ((Decides-eqb n.addr.0 addr.0).1 (sym ((Decides-eqb addr.0 n.addr.0).0 e))) ∙ not_true (nat_eq n.addr.0 addr.0) other))
    by false e = ap (λ b. b && nat_eq index n.volume) e

all_unmounted : (addr : Addr) (mounts : List Mount) (o : Option ℕ) → on_some o false (λ p. is_in (pair addr p) (without_addr addr mounts)) ≡ false
all_unmounted addr mounts None = refl
all_unmounted addr mounts (Some p) = not_in_without (is_of_another addr) (pair addr p) mounts (apart addr p)

pub are_mounted : AreMounted
are_mounted = record {
  mnt = λ t addr path index mounts e. after_mounted addr mounts (volume_named t path) index e;
  again = λ t addr path mounts e. mounted_again addr mounts (volume_named t path) e;
  umnt = λ t addr path mounts. after_unmounted addr mounts (volume_named t path);
  umnt_all = λ t addr path mounts. all_unmounted addr mounts (volume_named t path);
}
