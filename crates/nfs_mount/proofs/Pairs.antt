-- Pairs of a client and a volume: when two are the same, and what is left without one.
use Rattle.std.proofs.Common.{◌≡◌, ◌≤◌, length, Bool, true, false, cond, not, ◌&&◌, List, [], ◌∷◌, refl, sym, ap, subst, ◌∙◌}
use Rattle.std.specs.Prelude.{nat_eq}
use Rattle.std.specs.Bool.{Decides}
use Rattle.std.specs.List.{IsDistinct, AllByRecursion}
use Rattle.std.specs.Set.{remove_key}
use Rattle.std.proofs.lemmas.Bool.{and_parts}
use Rattle.std.proofs.lemmas.Bool.Decides.{Decides-eqb}
use Rattle.std.proofs.lemmas.Map.Made.{AllPairs-from_IsDistinct}
use Rattle.nfs_mount.specs.declared.mount.Mount.{Mount}
use Rattle.nfs_mount.specs.Mounts.{IsMountList, max_mounts, same, without_mount}

alike : (m n : Mount) → m.addr.0 ≡ n.addr.0 → m.volume ≡ n.volume → m ≡ n
alike m n a v = ap (λ x. record { addr = record { 0 = x }; volume = m.volume }) a ∙ ap (λ x. record { addr = n.addr; volume = x }) v

pub same_is : (m n : Mount) → same m n ≡ true → m ≡ n
same_is m n e = let parts = and_parts (nat_eq m.addr.0 n.addr.0) (nat_eq m.volume n.volume) e in
    alike m n ((Decides-eqb m.addr.0 n.addr.0).0 parts.0) ((Decides-eqb m.volume n.volume).0 parts.1)

pub same_self : (m : Mount) → same m m ≡ true
same_self m = ap (λ b. b && nat_eq m.volume m.volume) ((Decides-eqb m.addr.0 m.addr.0).1 refl) ∙ (Decides-eqb m.volume m.volume).1 refl

pub decides : (m n : Mount) → Decides (same m n) (m ≡ n)
decides m n = (same_is m n, λ e. subst (λ n. same m n ≡ true) e (same_self m))

pub list_of : (mounts : List Mount) → length mounts ≤ max_mounts → IsDistinct same mounts → IsMountList mounts
list_of mounts few unique = record { few = few; apart = AllPairs-from_IsDistinct decides mounts unique }

kept : (m : Mount) (mounts : List Mount) → AllByRecursion (λ n. same m n ≡ false) mounts → without_mount m mounts ≡ mounts
kept m [] apart = refl
kept m (n ∷ mounts) apart = ap (λ b. cond (not b) (n ∷ without_mount m mounts) (without_mount m mounts)) apart.0 ∙ ap (λ l. n ∷ l) (kept m mounts apart.1)

pub removed : (m : Mount) (mounts : List Mount) → IsDistinct same mounts → remove_key (same m) mounts ≡ without_mount m mounts
unfolding IsDistinct
removed m [] unique = refl
removed m (n ∷ mounts) unique = by (same m n) refl (removed m mounts unique.1)
  where
    by : (b : Bool) → same m n ≡ b → remove_key (same m) mounts ≡ without_mount m mounts → remove_key (same m) (n ∷ mounts) ≡ without_mount m (n ∷ mounts)
    by true e rest = ap (λ b. cond b mounts (n ∷ remove_key (same m) mounts)) e
        ∙ sym (kept m mounts (subst (λ k. AllByRecursion (λ y. same k y ≡ false) mounts) (sym (same_is m n e)) unique.0))
        ∙ ap (λ b. cond (not b) (n ∷ without_mount m mounts) (without_mount m mounts)) (sym e)
    by false e rest = ap (λ b. cond b mounts (n ∷ remove_key (same m) mounts)) e ∙ ap (λ l. n ∷ l) rest
        ∙ ap (λ b. cond (not b) (n ∷ without_mount m mounts) (without_mount m mounts)) (sym e)
