use Rattle.std.proofs.Common.{rules, ◌≡◌, ℕ, List, [], ◌∷◌, map, refl, sym, ap, ◌∙◌}
use Rattle.nfs_rpc.specs.AuthSys.{credential_of}
use Rattle.nfs_exports.specs.Ids.{Ids, squash_as, unless_root}
use Rattle.nfs_exports.specs.declared.options.Squash.{Squash}
use Rattle.nfs_exports.proofs.squash.squash.Goals as goal

-- 0 in place of 0 changes nothing
stays : (id : ℕ) → unless_root 0 id ≡ id
stays id = search rules

all_stay : (ids : List ℕ) → map (unless_root 0) ids ≡ ids
all_stay [] = refl
all_stay (id ∷ ids) = ap (λ i. i ∷ map (unless_root 0) ids) (stays id) ∙ ap (λ l. id ∷ l) (all_stay ids)

pub returns-in-No : goal.returns-in-No
returns-in-No c =
    let cred = credential_of c.args.cred.now in
    let kept : List ℕ → Ids = λ gids. record { uid = cred.uid; gid = cred.gid; gids = gids } in
    ap kept (all_stay c.as_slice.result.now ∙ c.as_slice.ensures.value) ∙ sym (ap (λ (s : Squash). squash_as s c.args.options.now cred) c.in-No.is)
