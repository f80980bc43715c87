-- What becomes of files as they are kept, as numbered files.
use Rattle.std.proofs.Common.{inl, inr, Bor, ◌≡◌, ◌≢◌, ℕ, ◌+◌, ◌-◌, ◌^◌, ◌<◌, List, [], ◌∷◌, ◌++◌, length, get_or, append_assoc, w32, w64, Option, Some, None, IsSome, IfSome, IfNone, is_some, option_map, nat_eq, sym, ap, subst, refl, ◌∙◌, arith}
use Rattle.std.specs.Int.{to_be_bytes}
use Rattle.std.specs.Option.{option_copied}
use Rattle.std.specs.Ordering.{nat_cmp}
use Rattle.std.specs.List.{IsDistinct}
use Rattle.std.specs.Map.{keys_of, lookup, remove_entry}
use Rattle.std.proofs.lemmas.Map.{lookup-remove_entry}
use Rattle.std.proofs.lemmas.Map.Keys.{IsDistinct-from_sorted}
use Rattle.std.proofs.lemmas.Bool.{eq-eqb}
use Rattle.nfs_handles.specs.SlotList.{SlotList, get}
use Rattle.nfs_handles.specs.SlotList as slot_list
use Rattle.nfs_handles.proofs.VacantSlots.{Updates-with_value}
use Rattle.nfs_handles.specs.NumberedFiles.{TaggedFile, NumberedFiles, at, value_at, tag_at, with_new, revalued, with_value, without, IsNumbered}
use Rattle.nfs_handles.specs.Handles.{handle_text, handle_at, live_with, number, LivesWith}
use Rattle.nfs_handles.specs.declared.reading.Reading.TheVariants.{Live, Stale}
use Rattle.nfs_handles.specs.declared.slots.Stored.{Stored}
use Rattle.nfs_handles.specs.Lending.{with_value_in}
use Rattle.nfs_handles.specs.Slotted.{value_in, tag_of, tagged, filed, slotted, Leads, LeadsOr, AllLead, AllLeadBack, IsKept}
use Rattle.nfs_handles.specs.Tags.{IsNextTag}
use Rattle.nfs_handles.specs.Changes.{Adds, Takes}
use Rattle.nfs_handles.proofs.Lookups.{compared, numbers_equal, one_number, none_is_next}
use Rattle.nfs_handles.proofs.Numbers.{numbered_new, numbered_value, numbered_without}
use Rattle.nfs_handles.proofs.Leading.{by_number, not_equal, same_some, not_both, if_true, if_false, held, keys_filed, lookup_filed, lead_at, none_held, gone, lead_without, valued, lead_valued, filed_more, lead_more, found_more, found_last}

-- the number of a file that is found in a slot leads there
pub leads_back : {T : Type 0} (slots : SlotList (Stored T)) (places : List (ℕ × ℕ)) → AllLeadBack slots places → (slot n : ℕ) (s : Stored T) → Some s ≡ get slots slot → s.number ≡ n → Some slot ≡ lookup (nat_eq n) places
leads_back slots places led slot n s there its = sym (ap (λ m. lookup (nat_eq m) places) (sym its) ∙ led slot s (sym there))

eight : (key rest : List ℕ) → length key ≡ 8 → get_or key 0 0 ∷ get_or key 1 0 ∷ get_or key 2 0 ∷ get_or key 3 0 ∷ get_or key 4 0 ∷ get_or key 5 0 ∷ get_or key 6 0 ∷ get_or key 7 0 ∷ rest ≡ key ++ rest
eight (a ∷ b ∷ c ∷ d ∷ e ∷ f ∷ g ∷ h ∷ []) rest l = refl
eight [] rest l = absurd (omega (arith, l))
eight (a ∷ []) rest l = absurd (omega (arith, l))
eight (a ∷ b ∷ []) rest l = absurd (omega (arith, l))
eight (a ∷ b ∷ c ∷ []) rest l = absurd (omega (arith, l))
eight (a ∷ b ∷ c ∷ d ∷ []) rest l = absurd (omega (arith, l))
eight (a ∷ b ∷ c ∷ d ∷ e ∷ []) rest l = absurd (omega (arith, l))
eight (a ∷ b ∷ c ∷ d ∷ e ∷ f ∷ []) rest l = absurd (omega (arith, l))
eight (a ∷ b ∷ c ∷ d ∷ e ∷ f ∷ g ∷ []) rest l = absurd (omega (arith, l))
eight (a ∷ b ∷ c ∷ d ∷ e ∷ f ∷ g ∷ h ∷ i ∷ more) rest l = absurd (omega (arith, l))

-- the bytes of a tag and of a number, one by one
abbrev pub after : List ℕ → List ℕ → List ℕ
after ts ns = get_or ts 0 0 ∷ get_or ts 1 0 ∷ get_or ts 2 0 ∷ get_or ts 3 0 ∷ get_or ns 0 0 ∷ get_or ns 1 0 ∷ get_or ns 2 0 ∷ get_or ns 3 0 ∷ get_or ns 4 0 ∷ get_or ns 5 0 ∷ get_or ns 6 0 ∷ get_or ns 7 0 ∷ []

pub handle_encoded : (key ts ns : List ℕ) (tag n : ℕ) → length key ≡ 8 → ts ≡ to_be_bytes w32 tag → ns ≡ to_be_bytes w64 n
    → 78 ∷ 70 ∷ 83 ∷ 51 ∷ get_or key 0 0 ∷ get_or key 1 0 ∷ get_or key 2 0 ∷ get_or key 3 0 ∷ get_or key 4 0 ∷ get_or key 5 0 ∷ get_or key 6 0 ∷ get_or key 7 0 ∷ after ts ns ≡ handle_text key tag n
handle_encoded key ts ns tag n l tag_is number_is =
    (λ i. 78 ∷ 70 ∷ 83 ∷ 51 ∷ get_or key 0 0 ∷ get_or key 1 0 ∷ get_or key 2 0 ∷ get_or key 3 0 ∷ get_or key 4 0 ∷ get_or key 5 0 ∷ get_or key 6 0 ∷ get_or key 7 0 ∷ after (tag_is i) (number_is i))
    ∙ ap (λ r. 78 ∷ 70 ∷ 83 ∷ 51 ∷ r) (eight key (after (to_be_bytes w32 tag) (to_be_bytes w64 n)) l)
    ∙ ap (λ r. 78 ∷ 70 ∷ 83 ∷ 51 ∷ r) (sym (append_assoc key (to_be_bytes w32 tag) (to_be_bytes w64 n)))

-- a function of two things, at two that are the same
pub same_both : {E D Z : Type 0} (read : (E → D) → D → Z) (F G : E → D) (v w : D) → ((x : E) → F x ≡ G x) → v ≡ w → read F v ≡ read G w
same_both read F G v w f e = λ i. read (λ x. f x i) (e i)

module _ {T : Type 0} where
  -- a list of slots that has room for more holds the same
  pub kept_reserved : (olds news : SlotList (Stored T)) (capacity : ℕ) (places : List (ℕ × ℕ)) (next : ℕ) (key : List ℕ) → news ≡ record olds { capacity = capacity } → IsKept olds places next key → IsKept news places next key
  kept_reserved olds news capacity places next key same h = subst (λ s. IsKept s places next key) (sym same) (record { numbered = h.numbered; lead = h.lead; led = h.led })

  pub slotted_reserved : (olds news : SlotList (Stored T)) (capacity : ℕ) (places : List (ℕ × ℕ)) (next : ℕ) (key : List ℕ) → news ≡ record olds { capacity = capacity } → slotted news places next key ≡ slotted olds places next key
  slotted_reserved olds news capacity places next key same = ap (λ s. slotted s places next key) same

  module _ (slots : SlotList (Stored T)) (places : List (ℕ × ℕ)) (next : ℕ) (key : List ℕ) (h : IsKept slots places next key) where
    abbrev t : NumberedFiles T
    t = slotted slots places next key

    distinct : IsDistinct nat_eq (keys_of places)
    distinct = subst (λ ks. IsDistinct nat_eq ks) (keys_filed slots places h.lead)
        (subst (λ same. IsDistinct same (keys_of (filed slots places))) (sym compared) (IsDistinct-from_sorted nat_cmp (keys_of (filed slots places)) h.numbered.rising))

    -- what lives at a number is what is in the slot that it leads to
    pub at_slotted : (n : ℕ) (o : Option ℕ) → o ≡ lookup (nat_eq n) places → at t n ≡ held slots o
    at_slotted n o found = lookup_filed (nat_eq n) slots places h.lead ∙ ap (held slots) (sym found)

    pub value_slotted : (n : ℕ) (o : Option ℕ) → o ≡ lookup (nat_eq n) places → value_at t n ≡ option_map (λ (f : TaggedFile T). f.value) (held slots o)
    value_slotted n o found = ap (option_map (λ (f : TaggedFile T). f.value)) (at_slotted n o found)

    pub leads_there : (n slot : ℕ) → Some slot ≡ lookup (nat_eq n) places → Leads slots (n, slot)
    leads_there n slot found = lead_at slots n slot places h.lead (sym found)

    values : (slot : ℕ) (o : Option (Stored T)) → option_map (λ (f : TaggedFile T). f.value) (option_map (tagged slot) o) ≡ option_map (λ (s : Stored T). s.value) o
    values slot None = refl
    values slot (Some s) = refl

    pub value_there : (n slot : ℕ) → Some slot ≡ lookup (nat_eq n) places → value_at t n ≡ option_map (λ (s : Stored T). s.value) (get slots slot)
    value_there n slot found = value_slotted n (Some slot) found ∙ values slot (get slots slot)

    -- ---- which tag is next

    tag_in_slot : (slot : ℕ) (s : Stored T) → get slots slot ≡ Some s → tag_at t s.number ≡ Some (tag_of slot)
    tag_in_slot slot s there = ap (option_map (λ (f : TaggedFile T). f.tag)) (at_slotted s.number (Some slot) (sym (h.led slot s there)) ∙ ap (option_map (tagged slot)) there)

    pub next_tag : (slot : ℕ) → get slots slot ≡ None → ((lesser : ℕ) → lesser < slot → IsSome (get slots lesser)) → IsNextTag t (tag_of slot)
    next_tag slot vacant least = record {
      fits = omega arith;
      below = λ lesser less.
          let it = some_value (get slots lesser) (least lesser (omega (arith, less))) in
          let its : tag_of lesser ≡ lesser = omega (arith, less) in
          (it.0.number, tag_in_slot lesser it.0 it.1 ∙ ap Some its);
      free = λ other n taken. free other n taken (lookup (nat_eq n) places) refl;
    }
      where
        some_value : (o : Option (Stored T)) → IsSome o → (s : Stored T) × (o ≡ Some s)
        some_value None some = cc
        some_value (Some s) some = (s, refl)

        free : tag_of slot ≢ 2 ^ 32 - 1 → (n : ℕ) → tag_at t n ≡ Some (tag_of slot) → (o : Option ℕ) → lookup (nat_eq n) places ≡ o → ⊥
        free other n taken None is = not_both (ap (option_map (λ (f : TaggedFile T). f.tag)) (at_slotted n None (sym is))) taken
        free other n taken (Some k) is =
            let l = leads_there n k (sym is) in
            let its : tag_at t n ≡ Some (tag_of k) = ap (option_map (λ (f : TaggedFile T). f.tag)) (at_slotted n (Some k) (sym is) ∙ ap (option_map (tagged k)) l.1) in
            let same : tag_of k ≡ tag_of slot = same_some (sym its ∙ taken) in
            let here : k ≡ slot = omega (arith, same, other) in
            not_both vacant (ap (get slots) (sym here) ∙ l.1)

    -- ---- a file comes

    module _ (slot : ℕ) (v : T) (news : SlotList (Stored T)) (more : List (ℕ × ℕ)) (vacant : get slots slot ≡ None) (at_new : get news slot ≡ Some (record { number = next; value = v }))
        (others : (k : ℕ) → k ≢ slot → get news k ≡ get slots k) (more_is : more ≡ places ++ (next, slot) ∷ []) where
      new_is : slotted news more (next + 1) key ≡ with_new t (tag_of slot) v
      new_is = ap (λ es. record { files = es; next = next + 1; key = key }) (ap (filed news) more_is ∙ filed_more slots news slot others next v vacant at_new places h.lead)

      pub adds_slotted : ((lesser : ℕ) → lesser < slot → IsSome (get slots lesser)) → Adds t v (slotted news more (next + 1) key)
      adds_slotted least = record { tag = tag_of slot; tag_is = next_tag slot vacant least; new_is = new_is }

      none_yet : lookup (nat_eq next) places ≡ None
      none_yet = none_held slots next places h.lead (none_is_next t h.numbered)

      pub kept_put : (next ≡ 2 ^ 64 - 1 → ⊥) → IsKept news more (next + 1) key
      kept_put below =
          let room : next + 1 < 2 ^ 64 = omega (arith, h.numbered.last, below) in
          record {
            numbered = subst IsNumbered (sym new_is) (numbered_new t (tag_of slot) v h.numbered (omega arith) room);
            lead = subst (AllLead news) (sym more_is) (lead_more slots news slot others next v vacant at_new places h.lead);
            led = λ k s there. subst (λ es. lookup (nat_eq s.number) es ≡ Some k) (sym more_is) (by_number k slot
                (λ same.
                let is : record { number = next; value = v } ≡ s = same_some (sym at_new ∙ sym (ap (get news) same) ∙ there) in
                let its : next ≡ s.number = ap (λ (s : Stored T). s.number) is in
                subst (λ m. lookup (nat_eq m) (places ++ (next, slot) ∷ []) ≡ Some k) its (found_last next slot places none_yet ∙ ap Some (sym same)))
                (λ o. found_more s.number next slot places k (h.led k s (sym (others k o) ∙ there))));
          }

    -- ---- a file goes

    module _ (n slot : ℕ) (news : SlotList (Stored T)) (fewer : List (ℕ × ℕ)) (found : Some slot ≡ lookup (nat_eq n) places) (at_new : get news slot ≡ None)
        (others : (k : ℕ) → k ≢ slot → get news k ≡ get slots k) (fewer_is : fewer ≡ remove_entry (nat_eq n) places) where
      leads : Leads slots (n, slot)
      leads = leads_there n slot found

      pub without_slotted : slotted news fewer next key ≡ without t n
      without_slotted = ap (λ es. record { files = es; next = next; key = key }) (ap (filed news) fewer_is ∙ gone slots news slot others n leads.0 leads.1 leads.2 places h.lead distinct)

      pub kept_taken : IsKept news fewer next key
      kept_taken = record {
        numbered = subst IsNumbered (sym without_slotted) (numbered_without t n h.numbered);
        lead = subst (AllLead news) (sym fewer_is) (lead_without slots news slot others n leads.0 leads.1 leads.2 places h.lead distinct);
        led = λ k s there. subst (λ es. lookup (nat_eq s.number) es ≡ Some k) (sym fewer_is) (by_number k slot
            (λ same. absurd (not_both at_new (ap (get news) (sym same) ∙ there)))
            (λ o.
            let was : lookup (nat_eq s.number) places ≡ Some k = h.led k s (sym (others k o) ∙ there) in
            lookup-remove_entry numbers_equal (nat_eq n) (one_number n) s.number places distinct
            ∙ by_number n s.number
            (λ same. absurd (o (same_some (sym was ∙ ap (λ m. lookup (nat_eq m) places) (sym same) ∙ sym found))))
            (λ other. if_false None (lookup (nat_eq s.number) places) (not_equal n s.number other) ∙ was)));
      }

    -- ---- a file has another value

    module _ (n slot : ℕ) (w : T) (news : SlotList (Stored T)) (found : Some slot ≡ lookup (nat_eq n) places) (s : Stored T) (at_slot : get slots slot ≡ Some s) (at_new : get news slot ≡ Some (record s { value = w }))
        (others : (k : ℕ) → k ≢ slot → get news k ≡ get slots k) where
      its : s.number ≡ n
      its = let l = leads_there n slot found in ap (λ (s : Stored T). s.number) (same_some (sym at_slot ∙ l.1)) ∙ l.2

      pub value_lent : slotted news places next key ≡ with_value t n w
      value_lent = ap (λ es. record { files = es; next = next; key = key }) (valued slots news slot others n s at_slot its w at_new places h.lead distinct (sym found))
          ∙ sym (ap (revalued t n w) (at_slotted n (Some slot) found ∙ ap (option_map (tagged slot)) at_slot))

      pub kept_lent : IsKept news places next key
      kept_lent = record {
        numbered = subst IsNumbered (sym value_lent) (numbered_value t n w h.numbered);
        lead = lead_valued slots news slot others n s at_slot its w at_new places h.lead;
        led = λ k x there. by_number k slot
            (λ same.
            let is : record s { value = w } ≡ x = same_some (sym at_new ∙ sym (ap (get news) same) ∙ there) in
            ap (λ (x : Stored T). lookup (nat_eq x.number) places) (sym is) ∙ h.led slot s at_slot ∙ ap Some (sym same))
            (λ o. h.led k x (sym (others k o) ∙ there));
      }

    -- ---- a value is lent

    none_there : (n slot : ℕ) → LeadsOr slots places n slot → get slots slot ≡ None → at t n ≡ None
    none_there n slot (inl found) none = at_slotted n (Some slot) (sym found) ∙ ap (option_map (tagged slot)) none
    none_there n slot (inr vacant) none = at_slotted n None (sym vacant.0)

    pub lent : (n slot : ℕ) (w : T) → LeadsOr slots places n slot → IsKept (with_value_in slots slot w (get slots slot)) places next key × (slotted (with_value_in slots slot w (get slots slot)) places next key ≡ with_value t n w)
    lent n slot w leads = by (get slots slot) refl leads
      where
        by : (o : Option (Stored T)) → get slots slot ≡ o → LeadsOr slots places n slot → IsKept (with_value_in slots slot w o) places next key × (slotted (with_value_in slots slot w o) places next key ≡ with_value t n w)
        by None is leads = (h, sym (ap (revalued t n w) (none_there n slot leads is)))
        by (Some s) is (inl found) =
            let u = Updates-with_value slots slot (record s { value = w }) (ap is_some is) in
            let news = slot_list.with_value slots slot (record s { value = w }) in
            (kept_lent n slot w news (sym found) s is u.changed u.others, value_lent n slot w news (sym found) s is u.changed u.others)
        by (Some s) is (inr vacant) = absurd (not_both vacant.1 is)

    pub value_or : (n slot : ℕ) → LeadsOr slots places n slot → value_in slots slot ≡ value_at t n
    value_or n slot (inl found) = sym (value_there n slot (sym found))
    value_or n slot (inr vacant) = ap (option_map (λ (s : Stored T). s.value)) vacant.1 ∙ sym (value_slotted n None (sym vacant.0))

    -- ---- a handle's file

    pub gone_from : (tag n : ℕ) → None ≡ lookup (nat_eq n) places → live_with tag n (at t n) ≡ Stale
    gone_from tag n none = ap (live_with tag n) (at_slotted n None none)

    found_in : (n slot : ℕ) (found : Some slot ≡ lookup (nat_eq n) places) → at t n ≡ Some (tagged slot (leads_there n slot found).0)
    found_in n slot found = at_slotted n (Some slot) found ∙ ap (option_map (tagged slot)) (leads_there n slot found).1

    pub of_another : (tag n slot : ℕ) → Some slot ≡ lookup (nat_eq n) places → (tag_of slot ≡ tag → ⊥) → live_with tag n (at t n) ≡ Stale
    of_another tag n slot found other = ap (live_with tag n) (found_in n slot found) ∙ if_false (Live (number n)) Stale (not_equal tag (tag_of slot) (λ same. other (sym same)))

    pub lives_in : (tag n slot : ℕ) (r : Option (Bor T)) → Some slot ≡ lookup (nat_eq n) places → tag_of slot ≡ tag → option_copied r ≡ value_in slots slot → IfSome r (λ value. LivesWith t tag n value.now)
    lives_in tag n slot None found same e = tt
    lives_in tag n slot (Some v) found same e =
        (ap (live_with tag n) (found_in n slot found) ∙ if_true (Live (number n)) Stale (eq-eqb tag (tag_of slot) (sym same)), value_there n slot found ∙ sym e)

    pub never_none : (P : Type 0) (n slot : ℕ) (r : Option (Bor T)) → Some slot ≡ lookup (nat_eq n) places → option_copied r ≡ value_in slots slot → IfNone r P
    never_none P n slot None found e = absurd (not_both (sym e) (ap (option_map (λ (s : Stored T). s.value)) (leads_there n slot found).1))
    never_none P n slot (Some v) found e = tt

    -- ---- what is taken

    pub takes_slotted : (n slot : ℕ) (r : Option T) (news : SlotList (Stored T)) (fewer : List (ℕ × ℕ)) (found : Some slot ≡ lookup (nat_eq n) places) → r ≡ value_in slots slot → get news slot ≡ None
        → ((k : ℕ) → k ≢ slot → get news k ≡ get slots k) → fewer ≡ remove_entry (nat_eq n) places → Takes t n r (slotted news fewer next key)
    takes_slotted n slot r news fewer found e at_new others fewer_is =
        let l = leads_there n slot found in
        let is = ap (option_map (λ (s : Stored T). s.value)) l.1 in
        subst (λ r. Takes t n r (slotted news fewer next key)) (sym (e ∙ is)) (value_there n slot found ∙ is, without_slotted n slot news fewer found at_new others fewer_is)

    -- ---- handles

    pub handle_slotted : (n slot : ℕ) (text : List ℕ) → Some slot ≡ lookup (nat_eq n) places → text ≡ handle_text key (tag_of slot) n → handle_at t n ≡ Some text
    handle_slotted n slot text found e =
        let l = leads_there n slot found in
        ap (option_map (λ (file : TaggedFile T). handle_text key file.tag n)) (at_slotted n (Some slot) found ∙ ap (option_map (tagged slot)) l.1) ∙ ap Some (sym e)
