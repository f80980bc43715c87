-- What is surely held of the reply cache.
use Rattle.std.proofs.Common.{◌≡◌, ℕ, suc, ◌+◌, ◌-◌, ◌<◌, Bool, true, false, cond, List, [], ◌∷◌, Option, Some, None, take, refl, sym, ap, subst, ◌∙◌, arith}
use Rattle.std.specs.Prelude.{if◌then◌else◌}
use Rattle.nfs_reply_cache.specs.Places.{Key, Place, same, place_for, cached_reply, with_reply, without}
use Rattle.nfs_reply_cache.proofs.Lookups.{found_cut, found_more, found_whole, none_some, stands_without, was_without}
use Rattle.nfs_server.specs.Events.{Event, Done}
use Rattle.nfs_server.specs.Retransmissions.{cached_after, first_reply, is_changing, key_of, standing}
use Rattle.nfs_server.specs.SurelyHeld.{Earlier, NoneButTheFirst, SurelyHeld, earlier, one_later}

same_some : {X : Type 0} {x y : X} → Some x ≡ Some y → x ≡ y
same_some e = cc

later_of : (o : Option Earlier) (before : Earlier) → one_later None o ≡ Some before → (first : Earlier) × (o ≡ Some first) × (before.since ≡ first.since + 1) × (before.reply ≡ first.reply)
later_of None before e = absurd (none_some e)
later_of (Some first) before e = (first, refl, ap (λ (s : Earlier). s.since) (sym (same_some e)), ap (λ (s : Earlier). s.reply) (sym (same_some e)))

-- an event with no changing call leaves every earlier one
earlier_plain : (key : Key) (d : Done) (history : List Done) → is_changing d.event ≡ false → earlier key (d ∷ history) ≡ earlier key history
earlier_plain key d history e = ap (λ b. cond b (one_later (if same key (key_of d.event) then standing d.answer else None) (earlier key history)) (earlier key history)) e

-- a changing call is the earlier one of its own key, and counts for the others
earlier_changing : (key : Key) (d : Done) (history : List Done) (b : Bool) (o : Option (List ℕ)) → is_changing d.event ≡ true → same key (key_of d.event) ≡ b → standing d.answer ≡ o → earlier key (d ∷ history) ≡ one_later (if b then o else None) (earlier key history)
earlier_changing key d history b o c s t =
    ap (λ x. cond x (one_later (if same key (key_of d.event) then standing d.answer else None) (earlier key history)) (earlier key history)) c
    ∙ ap (λ x. one_later (if x then standing d.answer else None) (earlier key history)) s ∙ ap (λ x. one_later (if b then x else None) (earlier key history)) t

if_none : (b : Bool) → cond {A = Option (List ℕ)} b None None ≡ None
if_none true = refl
if_none false = refl

-- a call that was refused for memory is no earlier one, and counts
earlier_refused : (key : Key) (d : Done) (history : List Done) → is_changing d.event ≡ true → standing d.answer ≡ None → earlier key (d ∷ history) ≡ one_later None (earlier key history)
earlier_refused key d history c s = earlier_changing key d history (same key (key_of d.event)) None c refl s ∙ ap (λ o. one_later o (earlier key history)) (if_none (same key (key_of d.event)))

-- ---- the cached replies

-- where fewer changing calls came after the earlier one of a key than there are places, its reply stands among as many of the first places, and one more
abbrev AreHeld : ℕ → List Done → List Place → Type 0
AreHeld places history kept = (key : Key) (before : Earlier) → earlier key history ≡ Some before → before.since < places
    → cached_reply key (take (before.since + 1) kept) ≡ Some before.reply

-- each cached reply is that of the earlier call of its key
abbrev AreTrue : List Done → List Place → Type 0
AreTrue history kept = (key : Key) (reply : List ℕ) → cached_reply key kept ≡ Some reply
    → (since : ℕ) × (earlier key history ≡ Some (record { since = since; reply = reply }))

plain_held : (places : ℕ) (d : Done) (history : List Done) (kept : List Place) → is_changing d.event ≡ false → AreHeld places history kept → AreHeld places (d ∷ history) kept
plain_held places d history kept c held key before e l = held key before (sym (earlier_plain key d history c) ∙ e) l

plain_true : (d : Done) (history : List Done) (kept : List Place) → is_changing d.event ≡ false → AreTrue history kept → AreTrue (d ∷ history) kept
plain_true d history kept c true_to key reply e = let t = true_to key reply e in (t.0, earlier_plain key d history c ∙ t.1)

-- want of memory leaves them
refused_held : (places : ℕ) (d : Done) (history : List Done) (kept : List Place) → is_changing d.event ≡ true → standing d.answer ≡ None → AreHeld places history kept → AreHeld places (d ∷ history) kept
refused_held places d history kept c s held key before e l =
    let p = later_of (earlier key history) before (sym (earlier_refused key d history c s) ∙ e) in
    found_more key (p.0.since + 1) (before.since + 1) kept before.reply (omega (arith, p.2)) (held key p.0 p.1 (omega (arith, l, p.2)) ∙ ap Some (sym p.3))

refused_true : (d : Done) (history : List Done) (kept : List Place) → is_changing d.event ≡ true → standing d.answer ≡ None → AreTrue history kept → AreTrue (d ∷ history) kept
refused_true d history kept c s true_to key reply e =
    let t = true_to key reply e in
    (t.0 + 1, earlier_refused key d history c s ∙ ap (one_later None) t.1)

take_front : {X : Type 0} (n : ℕ) (x : X) (xs : List X) → take (n + 1) (x ∷ xs) ≡ x ∷ take n xs
take_front n x xs = let e : suc n ≡ n + 1 = omega arith in subst (λ m. take m (x ∷ xs) ≡ x ∷ take n xs) e refl

-- a reply at the front, the other keys' one place further back
front_held : (places : ℕ) (d : Done) (reply : List ℕ) (history : List Done) (kept rest : List Place) → is_changing d.event ≡ true → standing d.answer ≡ Some reply
    → ((other : Key) (n : ℕ) (r : List ℕ) → same other (key_of d.event) ≡ false → n < places → cached_reply other (take n kept) ≡ Some r → cached_reply other (take n rest) ≡ Some r)
    → AreHeld places history kept → AreHeld places (d ∷ history) (place_for (key_of d.event) reply ∷ rest)
front_held places d reply history kept rest c s back held key before e l = by_key (same key (key_of d.event)) refl
  where
    by_key : (b : Bool) → same key (key_of d.event) ≡ b → cached_reply key (take (before.since + 1) (place_for (key_of d.event) reply ∷ rest)) ≡ Some before.reply
    by_key true k =
        let q : record { since = 0; reply = reply } ≡ before = same_some (sym (earlier_changing key d history true (Some reply) c k s) ∙ e) in
        subst (λ (x : Earlier). cached_reply key (take (x.since + 1) (place_for (key_of d.event) reply ∷ rest)) ≡ Some x.reply) q (ap (λ t. cond t (Some reply) None) k)
    by_key false k =
        let p = later_of (earlier key history) before (sym (earlier_changing key d history false (Some reply) c k s) ∙ e) in
        let h : cached_reply key (take before.since kept) ≡ Some before.reply = subst (λ n. cached_reply key (take n kept) ≡ Some before.reply) (sym p.2) (held key p.0 p.1 (omega (arith, l, p.2)) ∙ ap Some (sym p.3)) in
        ap (cached_reply key) (take_front before.since (place_for (key_of d.event) reply) rest) ∙ ap (λ t. cond t (Some reply) (cached_reply key (take before.since rest))) k ∙ back key before.since before.reply k l h

front_true : (d : Done) (reply : List ℕ) (history : List Done) (kept rest : List Place) → is_changing d.event ≡ true → standing d.answer ≡ Some reply
    → ((other : Key) (r : List ℕ) → same other (key_of d.event) ≡ false → cached_reply other rest ≡ Some r → cached_reply other kept ≡ Some r)
    → AreTrue history kept → AreTrue (d ∷ history) (place_for (key_of d.event) reply ∷ rest)
front_true d reply history kept rest c s was true_to key r e = by_key (same key (key_of d.event)) refl
  where
    by_key : (b : Bool) → same key (key_of d.event) ≡ b → (since : ℕ) × (earlier key (d ∷ history) ≡ Some (record { since = since; reply = r }))
    by_key true k =
        let q : reply ≡ r = same_some (sym (ap (λ t. cond t (Some reply) (cached_reply key rest)) k) ∙ e) in
        (0, earlier_changing key d history true (Some reply) c k s ∙ ap (λ x. Some (record { since = 0; reply = x })) q)
    by_key false k =
        let t = true_to key r (was key r k (sym (ap (λ t. cond t (Some reply) (cached_reply key rest)) k) ∙ e)) in
        (t.0 + 1, earlier_changing key d history false (Some reply) c k s ∙ ap (one_later None) t.1)

-- ---- after a history

held_next : (places : ℕ) (d : Done) (history : List Done) (kept : List Place) (b : Bool) (o : Option (List ℕ)) → is_changing d.event ≡ b → standing d.answer ≡ o → AreHeld places history kept
    → AreHeld places (d ∷ history) (if b then with_reply places (key_of d.event) o kept else kept)
held_next places d history kept false o c s held = plain_held places d history kept c held
held_next places d history kept true None c s held = refused_held places d history kept c s held
held_next places d history kept true (Some reply) c s held =
    front_held places d reply history kept (take (places - 1) (without (key_of d.event) kept)) c s
    (λ other n r q l e. found_cut other n (places - 1) (without (key_of d.event) kept) r (omega (arith, l)) (stands_without (key_of d.event) other n kept r q e)) held

true_next : (places : ℕ) (d : Done) (history : List Done) (kept : List Place) (b : Bool) (o : Option (List ℕ)) → is_changing d.event ≡ b → standing d.answer ≡ o → AreTrue history kept
    → AreTrue (d ∷ history) (if b then with_reply places (key_of d.event) o kept else kept)
true_next places d history kept false o c s true_to = plain_true d history kept c true_to
true_next places d history kept true None c s true_to = refused_true d history kept c s true_to
true_next places d history kept true (Some reply) c s true_to =
    front_true d reply history kept (take (places - 1) (without (key_of d.event) kept)) c s
    (λ other r q e. was_without (key_of d.event) other kept r q (found_whole other (places - 1) (without (key_of d.event) kept) r e)) true_to

are_held : (places : ℕ) (history : List Done) → AreHeld places history (cached_after places history)
are_held places [] = λ key before e l. absurd (none_some e)
are_held places (d ∷ history) = held_next places d history (cached_after places history) (is_changing d.event) (standing d.answer) refl refl (are_held places history)

are_true : (places : ℕ) (history : List Done) → AreTrue history (cached_after places history)
are_true places [] = λ key reply e. absurd (none_some e)
are_true places (d ∷ history) = true_next places d history (cached_after places history) (is_changing d.event) (standing d.answer) refl refl (are_true places history)

first_by : (places : ℕ) (history : List Done) (event : Event) (b : Bool) → is_changing event ≡ b
    → first_reply places history event ≡ (if b then cached_reply (key_of event) (cached_after places history) else None)
first_by places history event b c = ap (λ x. if x then cached_reply (key_of event) (cached_after places history) else None) c

pub surely_held : SurelyHeld
surely_held places history event before c e l =
    first_by places history event true c ∙ found_whole (key_of event) (before.since + 1) (cached_after places history) before.reply (are_held places history (key_of event) before e l)

pub none_but_the_first : NoneButTheFirst
none_but_the_first places history event reply e = by (is_changing event) refl
  where
    by : (b : Bool) → is_changing event ≡ b → (since : ℕ) × (earlier (key_of event) history ≡ Some (record { since = since; reply = reply }))
    by true c = are_true places history (key_of event) reply (sym (first_by places history event true c) ∙ e)
    by false c = absurd (none_some (sym (first_by places history event false c) ∙ e))
