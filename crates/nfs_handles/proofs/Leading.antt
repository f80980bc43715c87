-- Where numbers lead, and what becomes of it where one slot changes.
use Rattle.std.proofs.Common.{◌≡◌, ◌≢◌, ℕ, Bool, true, false, cond, List, [], ◌∷◌, ◌++◌, Option, Some, None, option_map, is_some, nat_eq, sym, ap, subst, refl, ◌∙◌}
use Rattle.std.specs.Map.{keys_of, lookup, set_value, remove_entry}
use Rattle.std.specs.List.{cons_option, IsDistinct, AllByRecursion}
use Rattle.std.proofs.lemmas.Bool.{eq-eqb, eqb-true}
use Rattle.nfs_handles.specs.SlotList.{SlotList, get}
use Rattle.nfs_handles.specs.NumberedFiles.{TaggedFile}
use Rattle.nfs_handles.specs.Slotted.{tag_of, tagged, file_in, filed, Leads, AllLead}
use Rattle.nfs_handles.specs.declared.slots.Stored.{Stored}
use Rattle.nfs_handles.proofs.Lookups.{lookup_last}

pub by_test : {P : Type 0} (b : Bool) → (b ≡ true → P) → (b ≡ false → P) → P
by_test true p q = p refl
by_test false p q = q refl

pub same_some : {X : Type 0} {x y : X} → Some x ≡ Some y → x ≡ y
same_some e = cc

pub not_both : {X : Type 0} {o : Option X} {x : X} → o ≡ None → o ≡ Some x → ⊥
not_both e f = cc

true_and_false : {b : Bool} → b ≡ true → b ≡ false → ⊥
true_and_false y n = cc

pub if_true : {A : Type 0} {b : Bool} (x y : A) → b ≡ true → cond b x y ≡ x
if_true x y e = ap (λ b. cond b x y) e

pub if_false : {A : Type 0} {b : Bool} (x y : A) → b ≡ false → cond b x y ≡ y
if_false x y e = ap (λ b. cond b x y) e

pub by_number : {P : Type 0} (m n : ℕ) → (m ≡ n → P) → (m ≢ n → P) → P
by_number m n p q = by_test (nat_eq m n) (λ y. p (eqb-true m n y)) (λ f. q (λ same. true_and_false (eq-eqb m n same) f))

pub not_equal : (a b : ℕ) → (a ≡ b → ⊥) → nat_eq a b ≡ false
not_equal a b other = by_test (nat_eq a b) (λ y. absurd (other (eqb-true a b y))) (λ f. f)

module _ {T : Type 0} where
  -- the file in a slot, if a number leads to one
  abbrev pub held : SlotList (Stored T) → Option ℕ → Option (TaggedFile T)
  held slots None = None
  held slots (Some slot) = option_map (tagged slot) (get slots slot)

  pub filed_cons : (slots : SlotList (Stored T)) (e : ℕ × ℕ) (es : List (ℕ × ℕ)) (l : Leads slots e) → filed slots (e ∷ es) ≡ (e.0, tagged e.1 l.0) ∷ filed slots es
  filed_cons slots e es l = ap (λ o. cons_option (option_map (λ (s : Stored T). (e.0, tagged e.1 s)) o) (filed slots es)) l.1

  pub keys_filed : (slots : SlotList (Stored T)) (es : List (ℕ × ℕ)) → AllLead slots es → keys_of (filed slots es) ≡ keys_of es
  keys_filed slots [] a = refl
  keys_filed slots (e ∷ es) a = ap keys_of (filed_cons slots e es a.0) ∙ ap (λ ks. e.0 ∷ ks) (keys_filed slots es a.1)

  pub lookup_filed : (test : ℕ → Bool) (slots : SlotList (Stored T)) (es : List (ℕ × ℕ)) → AllLead slots es → lookup test (filed slots es) ≡ held slots (lookup test es)
  lookup_filed test slots [] a = refl
  lookup_filed test slots (e ∷ es) a =
      ap (lookup test) (filed_cons slots e es a.0)
      ∙ ap (cond (test e.0) (Some (tagged e.1 a.0.0))) (lookup_filed test slots es a.1)
      ∙ choose (test e.0)
    where
      choose : (b : Bool) → cond b (Some (tagged e.1 a.0.0)) (held slots (lookup test es)) ≡ held slots (cond b (Some e.1) (lookup test es))
      choose true = sym (ap (option_map (tagged e.1)) a.0.1)
      choose false = refl

  -- where a number leads
  pub lead_at : (slots : SlotList (Stored T)) (n slot : ℕ) (es : List (ℕ × ℕ)) → AllLead slots es → lookup (nat_eq n) es ≡ Some slot → Leads slots (n, slot)
  lead_at slots n slot [] a found = absurd (not_both refl found)
  lead_at slots n slot (e ∷ es) a found = by_test (nat_eq n e.0)
      (λ y.
      let there : e.1 ≡ slot = same_some (sym (if_true (Some e.1) (lookup (nat_eq n) es) y) ∙ found) in
      (a.0.0, subst (λ k. get slots k ≡ Some a.0.0) there a.0.1, a.0.2 ∙ sym (eqb-true n e.0 y)))
      (λ f. lead_at slots n slot es a.1 (sym (if_false (Some e.1) (lookup (nat_eq n) es) f) ∙ found))

  pub none_held : (slots : SlotList (Stored T)) (n : ℕ) (es : List (ℕ × ℕ)) → AllLead slots es → lookup (nat_eq n) (filed slots es) ≡ None → lookup (nat_eq n) es ≡ None
  none_held slots n es a none = by (lookup (nat_eq n) es) refl
    where
      by : (o : Option ℕ) → lookup (nat_eq n) es ≡ o → o ≡ None
      by None is = refl
      by (Some slot) is =
          let l = lead_at slots n slot es a is in
          absurd (not_both none (lookup_filed (nat_eq n) slots es a ∙ ap (held slots) is ∙ ap (option_map (tagged slot)) l.1))

-- ---- one slot changes

module _ {T : Type 0} (old new : SlotList (Stored T)) (slot : ℕ) (others : (k : ℕ) → k ≢ slot → get new k ≡ get old k) where
  abbrev pub Apart : List (ℕ × ℕ) → Type 0
  Apart es = AllByRecursion (λ (e : ℕ × ℕ). e.1 ≢ slot) es

  same_in : (e : ℕ × ℕ) → e.1 ≢ slot → file_in new e ≡ file_in old e
  same_in e o = ap (option_map (λ (s : Stored T). (e.0, tagged e.1 s))) (others e.1 o)

  leads_still : (e : ℕ × ℕ) → e.1 ≢ slot → Leads old e → Leads new e
  leads_still e o l = (l.0, others e.1 o ∙ l.1, l.2)

  pub same_filed : (es : List (ℕ × ℕ)) → Apart es → filed new es ≡ filed old es
  same_filed [] a = refl
  same_filed (e ∷ es) a = λ i. cons_option (same_in e a.0 i) (same_filed es a.1 i)

  pub lead_still : (es : List (ℕ × ℕ)) → Apart es → AllLead old es → AllLead new es
  lead_still [] a l = tt
  lead_still (e ∷ es) a l = (leads_still e a.0 l.0, lead_still es a.1 l.1)

  -- no number leads to a vacant slot
  pub apart_vacant : get old slot ≡ None → (es : List (ℕ × ℕ)) → AllLead old es → Apart es
  apart_vacant none [] a = tt
  apart_vacant none (e ∷ es) a = (λ same. not_both none (subst (λ k. get old k ≡ Some a.0.0) same a.0.1), apart_vacant none es a.1)

  module _ (n : ℕ) (s : Stored T) (at_slot : get old slot ≡ Some s) (its : s.number ≡ n) where
    apart_one : (e : ℕ × ℕ) → Leads old e → nat_eq n e.0 ≡ false → e.1 ≢ slot
    apart_one e l other same =
        let is : l.0 ≡ s = same_some (sym (subst (λ k. get old k ≡ Some l.0) same l.1) ∙ at_slot) in
        true_and_false (eq-eqb n e.0 (sym its ∙ ap (λ (s : Stored T). s.number) (sym is) ∙ l.2)) other

    -- other numbers lead to other slots
    pub apart_number : (es : List (ℕ × ℕ)) → AllLead old es → AllByRecursion (λ k. nat_eq n k ≡ false) (keys_of es) → Apart es
    apart_number [] a d = tt
    apart_number (e ∷ es) a d = (apart_one e a.0 d.0, apart_number es a.1 d.1)

    after : (e : ℕ × ℕ) (es : List (ℕ × ℕ)) → nat_eq n e.0 ≡ true → IsDistinct nat_eq (keys_of (e ∷ es)) → AllByRecursion (λ k. nat_eq n k ≡ false) (keys_of es)
    unfolding IsDistinct
    after e es y d = subst (λ m. AllByRecursion (λ k. nat_eq m k ≡ false) (keys_of es)) (sym (eqb-true n e.0 y)) d.0

    -- ---- the file goes

    pub gone : (es : List (ℕ × ℕ)) → AllLead old es → IsDistinct nat_eq (keys_of es) → filed new (remove_entry (nat_eq n) es) ≡ remove_entry (nat_eq n) (filed old es)
    unfolding IsDistinct leads_still
    gone [] a d = refl
    gone (e ∷ es) a d = by_test (nat_eq n e.0)
        (λ y. ap (filed new) (if_true es (e ∷ remove_entry (nat_eq n) es) y) ∙ same_filed es (apart_number es a.1 (after e es y d)) ∙ sym (if_true (filed old es) (file ∷ remove_entry (nat_eq n) (filed old es)) y) ∙ whole)
        (λ f. ap (filed new) (if_false es (e ∷ remove_entry (nat_eq n) es) f)
        ∙ filed_cons new e (remove_entry (nat_eq n) es) (leads_still e (apart_one e a.0 f) a.0)
        ∙ ap (λ l. file ∷ l) (gone es a.1 d.1)
        ∙ sym (if_false (filed old es) (file ∷ remove_entry (nat_eq n) (filed old es)) f) ∙ whole)
      where
        file : ℕ × TaggedFile T
        file = (e.0, tagged e.1 a.0.0)

        whole : remove_entry (nat_eq n) (file ∷ filed old es) ≡ remove_entry (nat_eq n) (filed old (e ∷ es))
        whole = sym (ap (remove_entry (nat_eq n)) (filed_cons old e es a.0))

    pub lead_without : (es : List (ℕ × ℕ)) → AllLead old es → IsDistinct nat_eq (keys_of es) → AllLead new (remove_entry (nat_eq n) es)
    unfolding IsDistinct
    lead_without [] a d = tt
    lead_without (e ∷ es) a d = by_test (nat_eq n e.0)
        (λ y. subst (AllLead new) (sym (if_true es (e ∷ remove_entry (nat_eq n) es) y)) (lead_still es (apart_number es a.1 (after e es y d)) a.1))
        (λ f. subst (AllLead new) (sym (if_false es (e ∷ remove_entry (nat_eq n) es) f)) (leads_still e (apart_one e a.0 f) a.0, lead_without es a.1 d.1))

    -- ---- the file has another value

    module _ (w : T) (at_new : get new slot ≡ Some (record s { value = w })) where
      abbrev pub revalued_file : TaggedFile T
      revalued_file = record { tag = tag_of slot; value = w }

      pub valued : (es : List (ℕ × ℕ)) → AllLead old es → IsDistinct nat_eq (keys_of es) → lookup (nat_eq n) es ≡ Some slot → filed new es ≡ set_value (nat_eq n) (filed old es) revalued_file
      unfolding IsDistinct leads_still
      valued [] a d found = absurd (not_both refl found)
      valued (e ∷ es) a d found = by_test (nat_eq n e.0)
          (λ y.
          let there : e.1 ≡ slot = same_some (sym (if_true (Some e.1) (lookup (nat_eq n) es) y) ∙ found) in
          ap (λ o. cons_option (option_map (λ (s : Stored T). (e.0, tagged e.1 s)) o) (filed new es)) (ap (get new) there ∙ at_new)
          ∙ (λ i. (e.0, record { tag = tag_of (there i); value = w }) ∷ same_filed es (apart_number es a.1 (after e es y d)) i)
          ∙ sym (if_true ((e.0, revalued_file) ∷ filed old es) (file ∷ set_value (nat_eq n) (filed old es) revalued_file) y) ∙ whole)
          (λ f. filed_cons new e es (leads_still e (apart_one e a.0 f) a.0)
          ∙ ap (λ l. file ∷ l) (valued es a.1 d.1 (sym (if_false (Some e.1) (lookup (nat_eq n) es) f) ∙ found))
          ∙ sym (if_false ((e.0, revalued_file) ∷ filed old es) (file ∷ set_value (nat_eq n) (filed old es) revalued_file) f) ∙ whole)
        where
          file : ℕ × TaggedFile T
          file = (e.0, tagged e.1 a.0.0)

          whole : set_value (nat_eq n) (file ∷ filed old es) revalued_file ≡ set_value (nat_eq n) (filed old (e ∷ es)) revalued_file
          whole = sym (ap (λ l. set_value (nat_eq n) l revalued_file) (filed_cons old e es a.0))

      leads_valued : (e : ℕ × ℕ) → Leads old e → Leads new e
      leads_valued e l = by_number e.1 slot
          (λ same.
          let is : l.0 ≡ s = same_some (sym (subst (λ k. get old k ≡ Some l.0) same l.1) ∙ at_slot) in
          (record s { value = w }, ap (get new) same ∙ at_new, ap (λ (s : Stored T). s.number) (sym is) ∙ l.2))
          (λ o. leads_still e o l)

      pub lead_valued : (es : List (ℕ × ℕ)) → AllLead old es → AllLead new es
      lead_valued [] a = tt
      lead_valued (e ∷ es) a = (leads_valued e a.0, lead_valued es a.1)

  -- ---- a file comes

  module _ (next : ℕ) (v : T) (vacant : get old slot ≡ None) (at_new : get new slot ≡ Some (record { number = next; value = v })) where
    pub filed_more : (es : List (ℕ × ℕ)) → AllLead old es → filed new (es ++ (next, slot) ∷ []) ≡ filed old es ++ (next, record { tag = tag_of slot; value = v }) ∷ []
    unfolding leads_still
    filed_more [] a = ap (λ o. cons_option (option_map (λ (s : Stored T). (next, tagged slot s)) o) []) at_new
    filed_more (e ∷ es) a =
        filed_cons new e (es ++ (next, slot) ∷ []) (leads_still e (apart_vacant vacant (e ∷ es) a).0 a.0)
        ∙ ap (λ l. (e.0, tagged e.1 a.0.0) ∷ l) (filed_more es a.1)
        ∙ ap (λ l. l ++ (next, record { tag = tag_of slot; value = v }) ∷ []) (sym (filed_cons old e es a.0))

    pub lead_more : (es : List (ℕ × ℕ)) → AllLead old es → AllLead new (es ++ (next, slot) ∷ [])
    lead_more [] a = ((record { number = next; value = v }, at_new, refl), tt)
    lead_more (e ∷ es) a = (leads_still e (apart_vacant vacant (e ∷ es) a).0 a.0, lead_more es a.1)

-- ---- where a place more leads

pub found_more : (n m slot : ℕ) (es : List (ℕ × ℕ)) (k : ℕ) → lookup (nat_eq n) es ≡ Some k → lookup (nat_eq n) (es ++ (m, slot) ∷ []) ≡ Some k
found_more n m slot es k found = lookup_last n es m slot ∙ ap (λ o. cond (is_some o) o (cond (nat_eq n m) (Some slot) None)) found

pub found_last : (n slot : ℕ) (es : List (ℕ × ℕ)) → lookup (nat_eq n) es ≡ None → lookup (nat_eq n) (es ++ (n, slot) ∷ []) ≡ Some slot
found_last n slot es none = lookup_last n es n slot ∙ ap (λ o. cond (is_some o) o (cond (nat_eq n n) (Some slot) None)) none ∙ if_true (Some slot) None (eq-eqb n n refl)
