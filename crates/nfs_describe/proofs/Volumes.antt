-- The texts of volumes, one after the other, in the form for their names.
use Rattle.std.proofs.Common.{inl, inr, ◌≡◌, ℕ, zero, suc, ◌+◌, ◌<◌, Bool, true, false, ◌&&◌, cond, List, [], ◌∷◌, ◌++◌, length, get_or, slice_get, Some, None, option_map, refl, sym, ap, subst, ◌∙◌, arith}
use Rattle.std.specs.Prelude.{Vec}
use Rattle.std.specs.List.{list_all}
use Rattle.std.proofs.lemmas.List.{length-map}
use Rattle.std.proofs.lemmas.Option.{slice_get-get_or, slice_get-map}
use Rattle.nfs_exports.specs.declared.export_table.Export.{Export}
use Rattle.nfs_inodes.specs.Changes.{with_key}
use Rattle.nfs_inodes.specs.Tree.{Tree, Volume, on_some}
use Rattle.nfs_load.specs.declared.name_form.NameForm.{NameForm}
use Rattle.nfs_load.specs.declared.name_form.NameForm.TheVariants.{Plain, Percent}
use Rattle.nfs_describe.specs.Places.{AreWalks, FilePath, HasOther, are_plain, can_hold, form_for, walks_of}
use Rattle.nfs_describe.specs.Texts.{IsVolumeText, Says, SaysTo, volume_text}

-- ---- lists

same : {X : Type 0} (a b : X) → Some a ≡ Some b → a ≡ b
same a b e = cc

none_is : {X : Type 0} (a : X) → None ≡ Some a → ⊥
none_is a e = cc

true_false : true ≡ false → ⊥
true_false e = cc

false_true : false ≡ true → ⊥
false_true e = cc

-- a list has something where another one of its length has
there : {X Y : Type 0} (xs : List X) (ys : List Y) (i : ℕ) (x : X) → length xs ≡ length ys → slice_get xs i ≡ Some x → (y : Y) × (slice_get ys i ≡ Some y)
there [] ys i x long is = absurd (none_is x is)
there (a ∷ xs) [] i x long is = absurd (omega (arith, long))
there (a ∷ xs) (b ∷ ys) zero x long is = (b, refl)
there (a ∷ xs) (b ∷ ys) (suc i) x long is = there xs ys i x (omega (arith, long)) is

both : (a b : Bool) → (a && b) ≡ true → (a ≡ true) × (b ≡ true)
both true b e = (refl, e)
both false b e = absurd (false_true e)

all_at : {X : Type 0} (p : X → Bool) (xs : List X) (i : ℕ) (x : X) → list_all p xs ≡ true → slice_get xs i ≡ Some x → p x ≡ true
all_at p [] i x all is = absurd (none_is x is)
all_at p (y ∷ xs) zero x all is = ap p (sym (same y x is)) ∙ (both (p y) (list_all p xs) all).0
all_at p (y ∷ xs) (suc i) x all is = all_at p xs i x (both (p y) (list_all p xs) all).1 is

-- something in a list fails a test
abbrev Fails : {X : Type 0} → (X → Bool) → List X → Type 0
Fails {X} p xs = (i : ℕ) × (x : X) × (slice_get xs i ≡ Some x) × (p x ≡ false)

fails_first : {X : Type 0} (p : X → Bool) (x : X) (xs : List X) (b : Bool) → p x ≡ b → (b && list_all p xs) ≡ false → (list_all p xs ≡ false → Fails p xs) → Fails p (x ∷ xs)
fails_first p x xs false is none rest = (0, x, refl, is)
fails_first p x xs true is none rest = let r = rest none in (suc r.0, r.1, r.2, r.3)

fails : {X : Type 0} (p : X → Bool) (xs : List X) → list_all p xs ≡ false → Fails p xs
fails p [] none = absurd (true_false none)
fails p (x ∷ xs) none = fails_first p x xs (p x) refl none (fails p xs)

-- ---- the form of names

abbrev form_by : Bool → NameForm
form_by all = cond all Plain Percent

held_by : (t : Tree) (walks : List (List FilePath)) (i : ℕ) (walk : List FilePath) (all : Bool) → list_all (are_plain t) walks ≡ all → slice_get walks i ≡ Some walk
    → can_hold (form_by all) t walk ≡ true
held_by t walks i walk true is found = all_at (are_plain t) walks i walk is found
held_by t walks i walk false is found = refl

has_other : (t : Tree) (walks : List (List FilePath)) → AreWalks t walks → list_all (are_plain t) walks ≡ false → HasOther t
has_other t walks are none =
    let o = fails (are_plain t) walks none in
    let v = there walks t.volumes o.0 o.1 are.each o.2 in
    record { place = o.0; volume = v.0; at_place = v.1; walk = o.1; walked = are.walked o.0 v.0 o.1 v.1 o.2; other = o.3 }

said_by : (t : Tree) (table : List (List Export)) (walks : List (List FilePath)) (text : List ℕ) (all : Bool) → AreWalks t walks → list_all (are_plain t) walks ≡ all
    → SaysTo (form_by all) t table (length t.volumes) text → Says t table text
said_by t table walks text true are is says = inl says
said_by t table walks text false are is says = inr (has_other t walks are is, says)

-- ---- texts

-- the text of the volume at n
abbrev pub text_at : NameForm → Tree → List (List Export) → ℕ → List FilePath → List ℕ
text_at form t table n walk = on_some (slice_get t.volumes n) [] (λ (v : Volume). volume_text form t table n v walk)

one_more : (t : Tree) (table : List (List Export)) (form : NameForm) (walks : List (List FilePath)) (walk : List FilePath) (n : ℕ) (before new : List ℕ)
    → AreWalks t walks → form ≡ form_for t walks → slice_get walks n ≡ Some walk → SaysTo form t table n before → new ≡ before ++ text_at form t table n walk → SaysTo form t table (n + 1) new
one_more t table form walks walk n before new are form_is found says is =
    let v = there walks t.volumes n walk are.each found in
    let next : suc n ≡ n + 1 = omega arith in
    let volume : IsVolumeText form t table n (volume_text form t table n v.0 walk) = record {
      volume = v.0;
      at_place = v.1;
      walk = walk;
      walked = are.walked n v.0 walk v.1 found;
      held = ap (λ (f : NameForm). can_hold f t walk) form_is ∙ held_by t walks n walk (list_all (are_plain t) walks) refl found;
      text_is = refl;
    } in
    subst (λ k. SaysTo form t table k new) next
    (before, volume_text form t table n v.0 walk, says, volume, is ∙ ap (λ o. before ++ on_some o [] (λ (u : Volume). volume_text form t table n u walk)) v.1)

all_of : (t : Tree) (table : List (List Export)) (form : NameForm) (walks : List (List FilePath)) (n : ℕ) (text : List ℕ)
    → AreWalks t walks → form ≡ form_for t walks → n ≡ length walks → SaysTo form t table n text → Says t table text
all_of t table form walks n text are form_is all says =
    said_by t table walks text (list_all (are_plain t) walks) are refl
    (subst (λ (f : NameForm). SaysTo f t table (length t.volumes) text) form_is (subst (λ k. SaysTo form t table k text) (all ∙ are.each) says))

-- ---- the same of walks in memory

module _ {Z : Type 0} (t : Tree) (table : List (List Export)) (form : NameForm) (walks : List (Vec FilePath Z)) where
  abbrev items_of : Vec FilePath Z → List FilePath
  items_of walk = walk.items

  walk_at : (n : ℕ) (kept : Vec FilePath Z) → n < length walks → kept ≡ get_or walks n kept → slice_get (walks_of walks) n ≡ Some kept.items
  walk_at n kept inside item = slice_get-map items_of walks n ∙ ap (option_map items_of) (slice_get-get_or walks n kept inside ∙ ap Some (sym item))

  pub says_more : (kept : Vec FilePath Z) (walk : List FilePath) (n : ℕ) (before new : List ℕ) → AreWalks t (walks_of walks) → form ≡ form_for t (walks_of walks)
      → n < length walks → kept ≡ get_or walks n kept → walk ≡ kept.items → SaysTo form t table n before → new ≡ before ++ text_at form t table n walk → SaysTo form t table (n + 1) new
  says_more kept walk n before new are form_is inside item whole says is =
      one_more t table form (walks_of walks) walk n before new are form_is (walk_at n kept inside item ∙ ap Some (sym whole)) says is

  pub all_said : (n : ℕ) (text : List ℕ) → AreWalks t (walks_of walks) → form ≡ form_for t (walks_of walks) → n ≡ length walks → SaysTo form t table n text → Says t table text
  all_said n text are form_is all says = all_of t table form (walks_of walks) n text are form_is (all ∙ sym (length-map walks items_of)) says

-- the walks of a tree are those of the same tree under another key
pub keyed : (t : Tree) (key : List ℕ) (walks : List (List FilePath)) → AreWalks t walks → AreWalks (with_key t key) walks
keyed t key walks are = record { each = are.each; walked = are.walked }
