-- Where the names of places lead, by the entries that are made so far.
use Rattle.std.proofs.Common.{◌≡◌, ◌≢◌, ℕ, ◌+◌, Bool, true, false, cond, List, [], ◌∷◌, ◌++◌, Option, Some, None, option_map, refl, sym, ap, ◌∙◌}
use Rattle.std.specs.List.{find}
use Rattle.std.specs.Prelude.{bytes_eq, if◌then◌else◌}
use Rattle.nfs_inodes.specs.Law.{IsName, LivesAsDirectory}
use Rattle.nfs_inodes.specs.Reading.{attributes_of, type_of, is_directory_type, dot, dot_dot, has_name, listing, number_named, number_under}
use Rattle.nfs_inodes.specs.Tree.{Tree, File, Kind, Regular, Directory, Link, Entry, entries_in, is_directory, nlink, on_some}
use Rattle.nfs_inodes.proofs.Lists.{not_both}
use Rattle.nfs_load.specs.PathEnds as path_ends
use Rattle.nfs_load.specs.PathEnds.{PathEnd, end_at, end_after, ends_in, file_at}
use Rattle.nfs_round_trip.specs.Copies.{copied_entries}
use Rattle.nfs_round_trip.proofs.Paths.{itself_bytes, other_bytes}

-- ---- in lists of entries

pub on_some_is : {X : Type 0} (o : Option ℕ) (f : ℕ → Option X) (m : X) → on_some o None f ≡ Some m → (i : ℕ) × (o ≡ Some i) × (f i ≡ Some m)
on_some_is None f m e = absurd (not_both refl e)
on_some_is (Some i) f m e = (i, refl, e)

on_both : {X : Type 0} (o : Option ℕ) (f g : ℕ → Option X) → ((i : ℕ) → f i ≡ g i) → on_some o None f ≡ on_some o None g
on_both None f g each = refl
on_both (Some i) f g each = each i

-- where names lead from a number on
abbrev pub leads : (ℕ → List Entry) → ℕ → List (List ℕ) → Option ℕ
leads shown n [] = Some n
leads shown n (name ∷ names) = on_some (number_named name (shown n)) None (λ m. leads shown m names)

leads_push_last : (o : Option ℕ) → on_some o None (λ i. Some i) ≡ o
leads_push_last None = refl
leads_push_last (Some i) = refl

pub leads_push : (shown : ℕ → List Entry) (n m : ℕ) (names : List (List ℕ)) (name : List ℕ) → leads shown n names ≡ Some m
    → leads shown n (names ++ name ∷ []) ≡ number_named name (shown m)
leads_push shown n m [] name e = leads_push_last (number_named name (shown n)) ∙ ap (λ i. number_named name (shown i)) (let is : n ≡ m = cc in is)
leads_push shown n m (first ∷ names) name e = let s = on_some_is (number_named first (shown n)) (λ i. leads shown i names) m e in
    ap (λ o. on_some o None (λ i. leads shown i (names ++ name ∷ []))) s.1 ∙ leads_push shown s.0 m names name s.2

-- what is found is found in longer lists
found_step : (x : Entry) (b : Bool) (n : ℕ) (one two : Option Entry)
    → (option_map (λ (e : Entry). e.number) one ≡ Some n → option_map (λ (e : Entry). e.number) two ≡ Some n)
    → option_map (λ (e : Entry). e.number) (cond b (Some x) one) ≡ Some n → option_map (λ (e : Entry). e.number) (cond b (Some x) two) ≡ Some n
found_step x true n one two goes e = e
found_step x false n one two goes e = goes e

pub found_more : (name : List ℕ) (es more : List Entry) (n : ℕ) → number_named name es ≡ Some n → number_named name (es ++ more) ≡ Some n
found_more name [] more n e = absurd (not_both refl e)
found_more name (x ∷ es) more n e = found_step x (has_name name x) n (find (has_name name) es) (find (has_name name) (es ++ more)) (found_more name es more n) e

pub leads_more : (old new : ℕ → List Entry) → ((n : ℕ) → (more : List Entry) × (new n ≡ old n ++ more)) → (n m : ℕ) (names : List (List ℕ))
    → leads old n names ≡ Some m → leads new n names ≡ Some m
leads_more old new grown n m [] e = e
leads_more old new grown n m (name ∷ names) e = let s = on_some_is (number_named name (old n)) (λ i. leads old i names) m e in
    ap (λ o. on_some o None (λ i. leads new i names)) (ap (number_named name) (grown n).1 ∙ found_more name (old n) (grown n).0 s.0 s.1)
    ∙ leads_more old new grown s.0 m names s.2

-- a name that no entry has
abbrev pub HasNone : List ℕ → List Entry → Type 0
HasNone name [] = Unit {0}
HasNone name (e ∷ es) = (e.name ≢ name) × HasNone name es

pub none_found : (name : List ℕ) (es : List Entry) → HasNone name es → number_named name es ≡ None
none_found name [] none = refl
none_found name (x ∷ es) none = ap (λ b. option_map (λ (e : Entry). e.number) (cond b (Some x) (find (has_name name) es))) (other_bytes x.name name none.0)
    ∙ none_found name es none.1

pub found_last : (e : Entry) (es : List Entry) → HasNone e.name es → number_named e.name (es ++ e ∷ []) ≡ Some e.number
found_last e [] none = ap (λ b. option_map (λ (g : Entry). g.number) (cond b (Some e) None)) (itself_bytes e.name)
found_last e (x ∷ es) none = ap (λ b. option_map (λ (g : Entry). g.number) (cond b (Some x) (find (has_name e.name) (es ++ e ∷ []))))
    (other_bytes x.name e.name none.0) ∙ found_last e es none.1

copied_step : (number : ℕ → ℕ) (x y : Entry) (b : Bool) (one two : Option Entry) → y.number ≡ number x.number
    → option_map (λ (e : Entry). e.number) one ≡ option_map number (option_map (λ (e : Entry). e.number) two)
    → option_map (λ (e : Entry). e.number) (cond b (Some y) one) ≡ option_map number (option_map (λ (e : Entry). e.number) (cond b (Some x) two))
copied_step number x y true one two is e = ap Some is
copied_step number x y false one two is e = e

pub found_copied : (number : ℕ → ℕ) (cookie : ℕ) (name : List ℕ) (es : List Entry)
    → number_named name (copied_entries number cookie es) ≡ option_map number (number_named name es)
found_copied number cookie name [] = refl
found_copied number cookie name (x ∷ es) =
    copied_step number x (record { cookie = cookie; name = x.name; number = number x.number }) (has_name name x)
    (find (has_name name) (copied_entries number (cookie + 1) es)) (find (has_name name) es) refl (found_copied number (cookie + 1) name es)

-- ---- in a tree

-- a name in a directory is that of one of its entries
pub under_directory : (u : Tree) (d : ℕ) (h : File) (name : List ℕ) → LivesAsDirectory u d h → IsName name
    → number_under u d name ≡ number_named name (entries_in h.kind)
under_directory u d h name lives is = ap (λ o. number_named name (on_some o [] (λ f. listing d f.kind))) lives.0 ∙ in_kind h.kind lives.1
  where
    in_kind : (k : Kind) → is_directory k ≡ true → number_named name (listing d k) ≡ number_named name (entries_in k)
    in_kind (Regular bytes) y = refl
    in_kind (Link path) y = refl
    in_kind (Directory parent next_cookie entries) y =
        let itself : Entry = record { cookie = 1; name = dot; number = d } in
        let above : Entry = record { cookie = 2; name = dot_dot; number = parent } in
        let rest : Option Entry = find (has_name name) entries in
        ap (λ b. option_map (λ (e : Entry). e.number) (cond b (Some itself) (cond (bytes_eq dot_dot name) (Some above) rest)))
        (other_bytes dot name (λ e. is.no_dot (sym e)))
        ∙ ap (λ b. option_map (λ (e : Entry). e.number) (cond b (Some above) rest)) (other_bytes dot_dot name (λ e. is.no_dot_dot (sym e)))

-- where names lead in a tree
abbrev pub reached : Tree → ℕ → List (List ℕ) → Option ℕ
reached u n [] = Some n
reached u n (name ∷ names) = on_some (number_under u n name) None (λ m. reached u m names)

end_inner : (u : Tree) (names : List (List ℕ)) (name : List ℕ) (o : Option ℕ) → on_some o None (λ i. on_some (reached u i names) None (λ d. ends_in u d name))
    ≡ on_some (on_some o None (λ i. reached u i names)) None (λ d. ends_in u d name)
end_inner u names name None = refl
end_inner u names name (Some i) = refl

end_reached : (u : Tree) (n : ℕ) (first : List ℕ) (names : List (List ℕ)) (name : List ℕ)
    → end_after u n first (names ++ name ∷ []) ≡ on_some (number_under u n first) None (λ m. on_some (reached u m names) None (λ d. ends_in u d name))
end_reached u n first [] name = refl
end_reached u n first (next ∷ names) name = on_both (number_under u n first) (λ m. end_after u m next (names ++ name ∷ []))
    (λ m. on_some (reached u m (next ∷ names)) None (λ d. ends_in u d name))
    (λ m. end_reached u m next names name ∙ end_inner u names name (number_under u m next))

ends_here : (u : Tree) (d : ℕ) (name : List ℕ) (h : File) → LivesAsDirectory u d h → ends_in u d name ≡ Some (record { dir = d; name = name })
ends_here u d name h lives = ap (λ o. if path_ends.is_directory (option_map (λ (f : File). attributes_of d f (nlink u.files d f)) o) then Some
    (record { dir = d; name = name }) else None) lives.0
    ∙ ap (λ b. if b then Some (record { dir = d; name = name }) else None) (in_kind h.kind lives.1)
  where
    in_kind : (k : Kind) → is_directory k ≡ true → is_directory_type (type_of k) ≡ true
    in_kind (Regular bytes) y = y
    in_kind (Link path) y = y
    in_kind (Directory parent next_cookie entries) y = refl

pub end_is : (u : Tree) (root d : ℕ) (names : List (List ℕ)) (name : List ℕ) (h : File) → reached u root names ≡ Some d → LivesAsDirectory u d h
    → end_at u root (names ++ name ∷ []) ≡ Some (record { dir = d; name = name })
end_is u root d [] name h e lives = let is : root ≡ d = cc in ap (λ i. ends_in u i name) is ∙ ends_here u d name h lives
end_is u root d (first ∷ names) name h e lives =
    let s = on_some_is (number_under u root first) (λ m. reached u m names) d e in
    end_reached u root first names name ∙ ap (λ o. on_some o None (λ m. on_some (reached u m names) None (λ d. ends_in u d name))) s.1
    ∙ ap (λ o. on_some o None (λ d. ends_in u d name)) s.2 ∙ ends_here u d name h lives
