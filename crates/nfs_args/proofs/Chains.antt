-- Chains and pages.
use Rattle.std.proofs.Common.{◌≡◌, ℕ, ◌+◌, ◌<◌, ◌≤◌, true, false, suc, zero, List, [], ◌∷◌, ◌++◌, length, take, drop, Option, refl, sym, ap, subst, ◌∙◌, append_assoc, append-nil, arith}
use Rattle.std.specs.Int.{w32, w64, to_be_bytes}
use Rattle.std.proofs.Math.ListN.{get_or}
use Rattle.std.proofs.lemmas.Bool.{true≢false}
use Rattle.std.proofs.lemmas.List.{length-append, take_more, take-append-drop}
use Rattle.std.proofs.lemmas.Grind.{flat_map-append}
use Rattle.nfs_xdr.specs.Encoding.{IsNumber, IsBoolean, IsOptional, ◌⨾◌, EncodesOnce, opaque_text}
use Rattle.nfs_xdr.specs.Written.{Written, Appends}
use Rattle.nfs_xdr.proofs.Items.{boolean_written}
use Rattle.nfs_xdr.proofs.Writing.{appends_then, followed}
use Rattle.nfs_attrs.specs.declared.fattr.Fattr.{Fattr}
use Rattle.nfs_attrs.specs.Encoding.{IsPostOpAttr, post_op_attr_text}
use Rattle.nfs_args.specs.Encoding.{IsHandle, IsString}
use Rattle.nfs_args.specs.Chains.{IsChain, chained_text, links_text, chain_text, Each, AreEncoded}
use Rattle.nfs_args.specs.Results.{boolean_text}
use Rattle.nfs_args.specs.Pages.{IsEntry, IsEntryPlus, IsPageOf, page_end_text, BeginsPage, IsPage, IsPagePlus}
use Rattle.nfs_args.specs.declared.entry.Entry.{Entry}
use Rattle.nfs_args.specs.declared.entry_plus.EntryPlus.{EntryPlus}
use Rattle.nfs_args.specs.declared.dir_page.DirPage.{DirPage}
use Rattle.nfs_args.proofs.Once.{cut_off, field, fields, by_fields, attributes_once, hyper_once, boolean_once, string_once, post_op_handle_once}

-- ---- a chain is encoded once

-- a first text, and what follows it
peel : {A : Type 0} (S : A → List ℕ → Type 0) (First Second : List ℕ → Type 0) (v w : A) (a b x y : List ℕ) → EncodesOnce S → (p : (S v ⨾ First) a) → (q : (S w ⨾ Second) b) → a ++ x ≡ b ++ y
    → (v ≡ w) × (p.front ≡ q.front) × (p.back ++ x ≡ q.back ++ y)
peel S First Second v w a b x y one p q e =
    let whole : p.front ++ (p.back ++ x) ≡ q.front ++ (q.back ++ y) =
    sym (append_assoc p.front p.back x) ∙ ap (λ t. t ++ x) (sym p.text_is) ∙ e ∙ ap (λ t. t ++ y) q.text_is ∙ append_assoc q.front q.back y in
    let first = one v w p.front q.front (p.back ++ x) (q.back ++ y) p.first q.first whole in
    (first.0, first.1, cut_off p.front q.front (p.back ++ x) (q.back ++ y) first.1 whole)

-- the end of a chain at the front, and an item
no_item : (First : List ℕ → Type 0) (a b x y : List ℕ) → IsBoolean false a → (IsBoolean true ⨾ First) b → a ++ x ≡ b ++ y → ⊥
no_item First a b x y p q e =
    true≢false (sym (boolean_once false true a q.front x (q.back ++ y) p q.first (e ∙ ap (λ t. t ++ y) q.text_is ∙ append_assoc q.front q.back y)).0)

joined : (a b s t u v : List ℕ) → a ≡ s ++ t → b ≡ u ++ v → s ≡ u → t ≡ v → a ≡ b
joined a b s t u v left right front back = left ∙ ap (λ k. k ++ t) front ∙ ap (λ k. u ++ k) back ∙ sym right

pub chain_once : {A : Type 0} (S : A → List ℕ → Type 0) → EncodesOnce S → EncodesOnce (IsChain S)
chain_once S one [] [] a b x y p q e = (refl, (boolean_once false false a b x y p q e).1)
chain_once S one [] (w ∷ ws) a b x y p q e = absurd (no_item (S w ⨾ IsChain S ws) a b x y p q e)
chain_once S one (v ∷ vs) [] a b x y p q e = absurd (no_item (S v ⨾ IsChain S vs) b a y x q p (sym e))
chain_once S one (v ∷ vs) (w ∷ ws) a b x y p q e =
    let there = peel IsBoolean (S v ⨾ IsChain S vs) (S w ⨾ IsChain S ws) true true a b x y boolean_once p q e in
    let item = peel S (IsChain S vs) (IsChain S ws) v w p.back q.back x y one p.second q.second there.2 in
    let others = chain_once S one vs ws p.second.back q.second.back x y p.second.second q.second.second item.2 in (
      ap (λ k. k ∷ vs) item.0 ∙ ap (λ ks. w ∷ ks) others.0,
      joined a b p.front p.back q.front q.back p.text_is q.text_is there.1
          (joined p.back q.back p.second.front p.second.back q.second.front q.second.back p.second.text_is q.second.text_is item.1 others.1),
    )

-- ---- a chain that is written is encoded

pub chain_written : {A : Type 0} (S : A → List ℕ → Type 0) (text : A → List ℕ) (items : List A) → AreEncoded S text items → IsChain S items (chain_text text items)
chain_written S text [] each = boolean_written false
chain_written S text (item ∷ items) each = record {
  front = to_be_bytes w32 1;
  first = boolean_written true;
  back = text item ++ chain_text text items;
  second = followed _ _ _ _ each.0 (chain_written S text items each.1);
  text_is = ap (λ t. to_be_bytes w32 1 ++ t) (append_assoc (text item) (links_text text items) (to_be_bytes w32 0));
}

-- ---- a loop over items, of which item is the one at i

each_at : {A : Type 0} (P : A → Type 0) (items : List A) (i : ℕ) (d : A) → Each P items → i < length items → P (get_or items i d)
each_at P [] i d each below = absurd (omega (arith, below))
each_at P (item ∷ items) zero d each below = each.0
each_at P (item ∷ items) (suc i) d each below = each_at P items i d each.1 (omega (arith, below))

each_append : {A : Type 0} (P : A → Type 0) (items others : List A) → Each P items → Each P others → Each P (items ++ others)
each_append P [] others each more = more
each_append P (item ∷ items) others each more = (each.0, each_append P items others each.1 more)

take_one : {A : Type 0} (items : List A) (i : ℕ) (item : A) → i < length items → item ≡ get_or items i item → take (i + 1) items ≡ take i items ++ item ∷ []
take_one items i item below is = take_more items i item below ∙ ap (λ x. take i items ++ x ∷ []) (sym is)

links_more : {A : Type 0} (text : A → List ℕ) (items : List A) (i : ℕ) (item : A) → i < length items → item ≡ get_or items i item → links_text text (take (i + 1) items) ≡ links_text text (take i items) ++ chained_text text item
links_more text items i item below is =
    ap (links_text text) (take_one items i item below is)
    ∙ flat_map-append (chained_text text) (take i items) (item ∷ [])
    ∙ ap (λ t. links_text text (take i items) ++ t) (append-nil (chained_text text item))

pub item_fits : {A : Type 0} (P : A → Type 0) (items : List A) (i : ℕ) (item : A) → i < length items → item ≡ get_or items i item → Each P items → P item
item_fits P items i item below is each = subst P (sym is) (each_at P items i item each below)

-- there is room for it
pub item_room : {A : Type 0} (text : A → List ℕ) (items : List A) (i : ℕ) (item : A) (old mid : Written) → i < length items → item ≡ get_or items i item
    → length (links_text text items) ≤ old.room → Appends (links_text text (take i items)) old mid → length (chained_text text item) ≤ mid.room
item_room text items i item old mid below is room before =
    let whole : links_text text items ≡ links_text text (take (i + 1) items) ++ links_text text (drop (i + 1) items) =
    ap (links_text text) (sym (take-append-drop (i + 1) items)) ∙ flat_map-append (chained_text text) (take (i + 1) items) (drop (i + 1) items) in
    let some : length (links_text text items) ≡ length (links_text text (take (i + 1) items)) + length (links_text text (drop (i + 1) items)) =
    ap length whole ∙ length-append (links_text text (take (i + 1) items)) (links_text text (drop (i + 1) items)) in
    let one : length (links_text text (take (i + 1) items)) ≡ length (links_text text (take i items)) + length (chained_text text item) =
    ap length (links_more text items i item below is) ∙ length-append (links_text text (take i items)) (chained_text text item) in
    omega (arith, some, one, room, before.room)

pub items_appended : {A : Type 0} (text : A → List ℕ) (items : List A) (i : ℕ) (item : A) (old mid new : Written) → i < length items → item ≡ get_or items i item
    → Appends (links_text text (take i items)) old mid → Appends (chained_text text item) mid new → Appends (links_text text (take (i + 1) items)) old new
items_appended text items i item old mid new below is before one =
    subst (λ t. Appends t old new) (sym (links_more text items i item below is)) (appends_then (links_text text (take i items)) (chained_text text item) old mid new before one)

pub items_each : {A : Type 0} (P : A → Type 0) (items : List A) (i : ℕ) (item : A) → i < length items → item ≡ get_or items i item → Each P (take i items) → P item → Each P (take (i + 1) items)
items_each P items i item below is each one = subst (Each P) (sym (take_one items i item below is)) (each_append P (take i items) (item ∷ []) each (one, tt))

-- ---- pages

entry_once : EncodesOnce IsEntry
entry_once =
    by_fields _ IsEntry
    (fields (IsNumber w64) (λ (e : Entry). e.fileid) _ _ hyper_once
    (fields IsString (λ (e : Entry). e.name) _ _ string_once
    (field (IsNumber w64) (λ (e : Entry). e.cookie) hyper_once)))
    (λ v w r i. record { fileid = r.0 i; name = r.1.0 i; cookie = r.1.1 i })

entry_plus_once : EncodesOnce IsEntryPlus
entry_plus_once =
    by_fields _ IsEntryPlus
    (fields (IsNumber w64) (λ (e : EntryPlus). e.fileid) _ _ hyper_once
    (fields IsString (λ (e : EntryPlus). e.name) _ _ string_once
    (fields (IsNumber w64) (λ (e : EntryPlus). e.cookie) _ _ hyper_once
    (fields IsPostOpAttr (λ (e : EntryPlus). e.attributes) _ _ attributes_once
    (field (IsOptional IsHandle) (λ (e : EntryPlus). e.file) post_op_handle_once)))))
    (λ v w r i. record { fileid = r.0 i; name = r.1.0 i; cookie = r.1.1.0 i; attributes = r.1.1.1.0 i; file = r.1.1.1.1 i })

page_of_once : {A : Type 0} (S : A → List ℕ → Type 0) → EncodesOnce S → EncodesOnce (IsPageOf S)
page_of_once {A} S one =
    by_fields _ (IsPageOf S)
    (fields IsPostOpAttr (λ (p : DirPage (List A)). p.attributes) _ _ attributes_once
    (fields (IsNumber w64) (λ (p : DirPage (List A)). p.verifier) _ _ hyper_once
    (fields (IsChain S) (λ (p : DirPage (List A)). p.entries) _ _ (chain_once S one)
    (field IsBoolean (λ (p : DirPage (List A)). p.eof) boolean_once))))
    (λ v w r i. record { attributes = r.0 i; verifier = r.1.0 i; entries = r.1.1.0 i; eof = r.1.1.1 i })

pub page_once : EncodesOnce IsPage
page_once = page_of_once IsEntry entry_once

pub page_plus_once : EncodesOnce IsPagePlus
page_plus_once = page_of_once IsEntryPlus entry_plus_once

pub page_head_written : {A : Type 0} (S : A → List ℕ → Type 0) (text : A → List ℕ) (attributes : Option Fattr) (verifier : ℕ) → IsPostOpAttr attributes (post_op_attr_text attributes) → IsNumber w64 verifier (to_be_bytes w64 verifier)
    → BeginsPage S text attributes verifier
page_head_written S text attributes verifier shown number entries eof each = record {
  front = post_op_attr_text attributes;
  first = shown;
  back = to_be_bytes w64 verifier ++ (chain_text text entries ++ boolean_text eof);
  second = followed _ _ _ _ number (followed _ _ _ _ (chain_written S text entries each) (boolean_written eof));
  text_is =
      append_assoc (post_op_attr_text attributes) (to_be_bytes w64 verifier) (links_text text entries ++ page_end_text eof)
      ∙ ap (λ t. post_op_attr_text attributes ++ (to_be_bytes w64 verifier ++ t)) (sym (append_assoc (links_text text entries) (to_be_bytes w32 0) (boolean_text eof)));
}

-- ---- groups that were lent

pub groups_written : (groups lent : List (List ℕ)) → lent ≡ groups → AreEncoded IsString opaque_text lent → IsChain IsString groups (chain_text opaque_text groups)
groups_written groups lent same each = chain_written IsString opaque_text groups (subst (AreEncoded IsString opaque_text) same each)
