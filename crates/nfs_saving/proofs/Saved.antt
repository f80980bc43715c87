-- What a saving has done.
use Rattle.std.proofs.Common.{inl, inr, ◌≡◌, ◌⊎◌, ℕ, List, Option, Some, Result, Ok, Err, subst}
use Rattle.std.specs.Prelude.{OnErr}
use Rattle.nfs_saving.specs.Saving.{IsDescription, IsKey, IsRefused, IsSaved, MayReplace, Replaces}
use Rattle.nfs_describe.specs.Texts.{Says}
use Rattle.nfs_inodes.specs.Changes.{with_key}
use Rattle.nfs_server.specs.Fits.{Held}

pub described : (given : Option (List ℕ)) (server : Held) (key text : List ℕ) → IsKey given key → Says (with_key server.state.tree key) server.setup.exports text → IsDescription given server text
described given server key text is says = record { key = key; key_is = is; says = says }

pub saved : (given : Option (List ℕ)) (server : Held) (text : List ℕ) (old mid new : Option (List ℕ)) → IsDescription given server text → mid ≡ old → Replaces mid text new
    → IsSaved given server text old new
saved given server text old mid new describes same replaces = record { describes = describes; replaces = subst (λ n. Replaces n text new) same replaces }

pub tried : (given : Option (List ℕ)) (server : Held) (text : List ℕ) (old mid new : Option (List ℕ)) → IsDescription given server text → mid ≡ old → MayReplace mid text new
    → IsRefused given server old new
tried given server text old mid new describes same replaces = inr (record { text = text; describes = describes; replaces = subst (λ n. MayReplace n text new) same replaces })

pub on_err : {T E : Type 0} (result : Result T E) (P : Type 0) → P → OnErr result P
on_err (Ok x) P p = tt
on_err (Err e) P p = p
