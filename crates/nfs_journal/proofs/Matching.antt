-- Events that were run again, beside the events whose entries they have.
use Rattle.std.proofs.Common.{◌≡◌, ℕ, ◌+◌, ◌-◌, Bool, true, false, ◌&&◌, List, [], ◌∷◌, ◌++◌, Option, Some, None, IsSome, map, reverse, take, length, refl, sym, ap, subst, ◌∙◌, append_assoc, append-nil, arith}
use Rattle.std.specs.Prelude.{not, if◌then◌else◌}
use Rattle.std.specs.List.{AllByRecursion, flat_map}
use Rattle.std.proofs.Math.Seq.{take-append_seam}
use Rattle.std.proofs.lemmas.Bool.{true≢false, false≢true}
use Rattle.std.proofs.lemmas.List.{append_cancel_left, length-append, map-append, reverse-append, reverse-reverse}
use Rattle.std.proofs.lemmas.List.Concat.{flat_map-append}
use Rattle.nfs_journal.proofs.Decoding.{entries_once}
use Rattle.nfs_journal.specs.Alike.{AreAlike, AllAlike}
use Rattle.nfs_journal.specs.Entries.{FitsEntry}
use Rattle.nfs_journal.specs.Noted.{IsServed, noted}
use Rattle.nfs_journal.specs.Recovering.{IsRerun}
use Rattle.nfs_rpc.proofs.Streams.{record_once}
use Rattle.nfs_rpc.specs.Records.{AreRecords, IsPart, IsRecord, fragment, header, unended}
use Rattle.nfs_server.proofs.Feeding.{all_append}
use Rattle.nfs_server.specs.Entries.{entry_of, entry_text, journal_text, reply_bytes}
use Rattle.nfs_server.specs.Events.{Done}
use Rattle.nfs_server.specs.Noted.{has_entry, is_noted}
use Rattle.nfs_xdr.specs.Encoding.{BeginsNone}

-- ---- lists

abbrev is_nil : {X : Type 0} → List X → Bool
is_nil [] = true
is_nil (x ∷ xs) = false

nil_cons : {X Y : Type 0} (x : X) (xs : List X) → [] ≡ x ∷ xs → Y
nil_cons x xs e = absurd (true≢false (ap is_nil e))

head_of : {X : Type 0} (x y : X) (xs ys : List X) → x ∷ xs ≡ y ∷ ys → x ≡ y
head_of x y xs ys e = cc

tail_of : {X : Type 0} (x y : X) (xs ys : List X) → x ∷ xs ≡ y ∷ ys → xs ≡ ys
tail_of x y xs ys e = cc

turned : {X : Type 0} (x : X) (xs : List X) → reverse (x ∷ xs) ≡ reverse xs ++ x ∷ []
turned x xs = reverse-append (x ∷ []) xs

all_reverse : {X : Type 0} (P : X → Type 0) (xs : List X) → AllByRecursion P xs → AllByRecursion P (reverse xs)
all_reverse P [] a = tt
all_reverse P (x ∷ xs) a = subst (AllByRecursion P) (sym (turned x xs)) (all_append P (reverse xs) (x ∷ []) (all_reverse P xs a.1) (a.0, tt))

pub all_front : {X : Type 0} (P : X → Type 0) (xs ys : List X) → AllByRecursion P (xs ++ ys) → AllByRecursion P xs
all_front P [] ys a = tt
all_front P (x ∷ xs) ys a = (a.0, all_front P xs ys a.1)

pub all_back : {X : Type 0} (P : X → Type 0) (xs ys : List X) → AllByRecursion P (xs ++ ys) → AllByRecursion P ys
all_back P [] ys a = a
all_back P (x ∷ xs) ys a = all_back P xs ys a.1

pub all_noted : (P : Done → Type 0) (done : List Done) → AllByRecursion P done → AllByRecursion P (noted done)
all_noted P [] a = tt
all_noted P (d ∷ before) a = by (has_entry d) (all_noted P before a.1)
  where
    by : (b : Bool) → AllByRecursion P (noted before) → AllByRecursion P (if b then d ∷ noted before else noted before)
    by true rest = (a.0, rest)
    by false rest = rest

pub all_of : {X : Type 0} (P Q : X → Type 0) (xs : List X) → ((x : X) → P x → Q x) → AllByRecursion P xs → AllByRecursion Q xs
all_of P Q [] each a = tt
all_of P Q (x ∷ xs) each a = (each x a.0, all_of P Q xs each a.1)

-- ---- journals as the text of their entries

abbrev texts : List (List ℕ) → List ℕ
texts entries = flat_map (fragment true) entries

abbrev HasEntry : Done → Type 0
HasEntry d = has_entry d ≡ true

pub journal_append : (xs ys : List Done) → journal_text (xs ++ ys) ≡ journal_text ys ++ journal_text xs
journal_append [] ys = sym (append-nil (journal_text ys))
journal_append (x ∷ xs) ys =
    let more = if has_entry x then fragment true (entry_of x) else [] in
    ap (λ t. t ++ more) (journal_append xs ys) ∙ append_assoc (journal_text ys) (journal_text xs) more

journal_forward : (done : List Done) → AllByRecursion HasEntry done → journal_text done ≡ texts (map entry_of (reverse done))
journal_forward [] a = refl
journal_forward (d ∷ before) a =
    let entries = map entry_of (reverse before) in
    ap (λ b. journal_text before ++ (if b then fragment true (entry_of d) else [])) a.0
    ∙ ap (λ t. t ++ fragment true (entry_of d)) (journal_forward before a.1)
    ∙ ap (λ t. texts entries ++ t) (sym (append-nil (fragment true (entry_of d))))
    ∙ sym (flat_map-append (fragment true) entries (entry_of d ∷ []))
    ∙ ap texts (sym (map-append entry_of (reverse before) (d ∷ [])))
    ∙ ap (λ ds. texts (map entry_of ds)) (sym (reverse-append (d ∷ []) before))

own_record : (content : List ℕ) → IsPart content → IsRecord content (fragment true content)
own_record content part = record { parts = []; are_parts = tt; final = content; final_is = part; content_is = refl; text_is = refl }

texts_records : (entries : List (List ℕ)) → AllByRecursion IsPart entries → AreRecords (texts entries) entries []
texts_records [] p = refl
texts_records (x ∷ entries) p = (texts entries, record { text = fragment true x; encoded = own_record x p.0; bytes_are = refl }, texts_records entries p.1)

-- Records at the front of the fragments of their contents are these fragments.
texts_once : (entries : List (List ℕ)) (bytes rest lost more : List ℕ) → AllByRecursion IsPart entries → AreRecords bytes entries rest → bytes ++ lost ≡ texts entries ++ more
    → bytes ≡ texts entries ++ rest
texts_once [] bytes rest lost more p r e = sym r
texts_once (x ∷ entries) bytes rest lost more p r e =
    let aligned : r.1.text ++ (r.0 ++ lost) ≡ fragment true x ++ (texts entries ++ more) =
    sym (append_assoc r.1.text r.0 lost) ∙ ap (λ t. t ++ lost) (sym r.1.bytes_are) ∙ e ∙ append_assoc (fragment true x) (texts entries) more in
    let same = record_once x x r.1.text (fragment true x) (r.0 ++ lost) (texts entries ++ more) r.1.encoded (own_record x p.0) aligned in
    let after : r.0 ++ lost ≡ texts entries ++ more = append_cancel_left (fragment true x) (r.0 ++ lost) (texts entries ++ more) (ap (λ t. t ++ (r.0 ++ lost)) (sym same.1) ∙ aligned) in
    r.1.bytes_are ∙ ap (λ t. t ++ r.0) same.1 ∙ ap (λ t. fragment true x ++ t) (texts_once entries r.0 rest lost more p.1 r.2 after) ∙ sym (append_assoc (fragment true x) (texts entries) rest)

no_record_in_none : {Y : Type 0} (content text after lost : List ℕ) → IsRecord content text → (text ++ after) ++ lost ≡ [] → Y
no_record_in_none content text after lost is e =
    let all : length (text ++ after) + length lost ≡ 0 = sym (length-append (text ++ after) lost) ∙ ap length e in
    let both : length (text ++ after) ≡ length text + length after = length-append text after in
    let split : length text ≡ length (unended is.parts) + length (fragment true is.final) = ap length is.text_is ∙ length-append (unended is.parts) (fragment true is.final) in
    let marked : length (fragment true is.final) ≡ 4 + length is.final = length-append (header true (length is.final)) is.final in
    absurd (omega (arith, all, both, split, marked))

-- Records at the front of a stream of whole ones are the first of them.
front_of : (records all : List (List ℕ)) (bytes rest lost whole : List ℕ) → bytes ++ lost ≡ whole → AreRecords bytes records rest → AreRecords whole all []
    → (left : List (List ℕ)) × (all ≡ records ++ left) × AreRecords (rest ++ lost) left []
front_of [] all bytes rest lost whole e r s = (all, refl, subst (λ t. AreRecords t all []) (sym (ap (λ t. t ++ lost) r ∙ e)) s)
front_of (q ∷ records) [] bytes rest lost whole e r s = no_record_in_none q r.1.text r.0 lost r.1.encoded (ap (λ t. t ++ lost) (sym r.1.bytes_are) ∙ e ∙ sym s)
front_of (q ∷ records) (x ∷ all) bytes rest lost whole e r s =
    let aligned : r.1.text ++ (r.0 ++ lost) ≡ s.1.text ++ s.0 = sym (append_assoc r.1.text r.0 lost) ∙ ap (λ t. t ++ lost) (sym r.1.bytes_are) ∙ e ∙ s.1.bytes_are in
    let same = record_once q x r.1.text s.1.text (r.0 ++ lost) s.0 r.1.encoded s.1.encoded aligned in
    let after : r.0 ++ lost ≡ s.0 = append_cancel_left s.1.text (r.0 ++ lost) s.0 (ap (λ t. t ++ (r.0 ++ lost)) (sym same.1) ∙ aligned) in
    let next = front_of records all r.0 rest lost s.0 after r.2 s.2 in
    (next.0, ap (λ y. y ∷ all) (sym same.0) ∙ ap (λ l. q ∷ l) next.1, next.2)

none_left : (left : List (List ℕ)) (rest : List ℕ) → BeginsNone IsRecord rest → AreRecords rest left [] → (left ≡ []) × (rest ≡ [])
none_left [] rest none r = (refl, sym r)
none_left (x ∷ left) rest none r = absurd (none x r.0 r.1)

pub none_in_none : BeginsNone IsRecord []
none_in_none content rest begins = no_record_in_none content begins.text rest [] begins.encoded (append-nil (begins.text ++ rest) ∙ sym begins.bytes_are)

-- ---- the same entries are of events alike

same_reply : (a b : Option (List ℕ)) → IsSome a → IsSome b → reply_bytes a ≡ reply_bytes b → a ≡ b
same_reply (Some x) (Some y) s t e = ap Some e
same_reply None b s t e = absurd (false≢true s)
same_reply (Some x) None s t e = absurd (false≢true t)

alike_one : (a b : Done) → IsRerun a → IsRerun b → entry_of a ≡ entry_of b → AreAlike a b
alike_one a b p q e =
    let same = entries_once a.event b.event (reply_bytes a.answer.reply) (reply_bytes b.answer.reply) p.words q.words e in
    record { event_is = same.0; reply_is = same_reply a.answer.reply b.answer.reply p.answered q.answered same.1 }

alike_front : (xs ys : List Done) (left : List (List ℕ)) → AllByRecursion IsRerun xs → AllByRecursion IsRerun ys → map entry_of xs ≡ map entry_of ys ++ left
    → (front : List Done) × (back : List Done) × (xs ≡ front ++ back) × AllAlike front ys × (map entry_of back ≡ left)
alike_front xs [] left p q e = ([], xs, refl, tt, e)
alike_front [] (y ∷ ys) left p q e = nil_cons (entry_of y) (map entry_of ys ++ left) e
alike_front (x ∷ xs) (y ∷ ys) left p q e =
    let more = alike_front xs ys left p.1 q.1 (tail_of (entry_of x) (entry_of y) (map entry_of xs) (map entry_of ys ++ left) e) in
    (x ∷ more.0, more.1, ap (λ l. x ∷ l) more.2, (alike_one x y p.0 q.0 (head_of (entry_of x) (entry_of y) (map entry_of xs) (map entry_of ys ++ left) e), more.3), more.4)

alike_append : (xs ys : List Done) (x y : Done) → AllAlike xs ys → AreAlike x y → AllAlike (xs ++ x ∷ []) (ys ++ y ∷ [])
alike_append [] [] x y e a = (a, tt)
alike_append [] (b ∷ ys) x y e a = absurd e
alike_append (b ∷ xs) [] x y e a = absurd e
alike_append (b ∷ xs) (c ∷ ys) x y e a = (e.0, alike_append xs ys x y e.1 a)

alike_reverse : (xs ys : List Done) → AllAlike xs ys → AllAlike (reverse xs) (reverse ys)
alike_reverse [] [] e = tt
alike_reverse [] (y ∷ ys) e = absurd e
alike_reverse (x ∷ xs) [] e = absurd e
alike_reverse (x ∷ xs) (y ∷ ys) e =
    subst (λ l. AllAlike l (reverse (y ∷ ys))) (sym (turned x xs))
    (subst (λ l. AllAlike (reverse xs ++ x ∷ []) l) (sym (turned y ys)) (alike_append (reverse xs) (reverse ys) x y (alike_reverse xs ys e.1) e.0))

served_of : (done : List Done) → AllByRecursion IsRerun done → AllByRecursion IsServed done
served_of [] a = tt
served_of (d ∷ before) a = (a.0.served, served_of before a.1)

-- ---- what is alike has the same entries

pub noted_have : (done : List Done) → AllByRecursion HasEntry (noted done)
noted_have [] = tt
noted_have (d ∷ before) = by (has_entry d) refl (noted_have before)
  where
    by : (b : Bool) → has_entry d ≡ b → AllByRecursion HasEntry (noted before) → AllByRecursion HasEntry (if b then d ∷ noted before else noted before)
    by true e rest = (e, rest)
    by false e rest = rest

first_true : (a b : Bool) → a && b ≡ true → a ≡ true
first_true true b e = refl
first_true false b e = e

have_one : (a b : Done) → AreAlike a b → HasEntry a → IsRerun b → HasEntry b
have_one a b e has is =
    ap (λ r. is_noted b.event && not r) is.served ∙ ap (λ n. n && not false) (ap is_noted (sym e.event_is) ∙ first_true (is_noted a.event) _ has)

same_entry : (a b : Done) → AreAlike a b → entry_of a ≡ entry_of b
same_entry a b e = ap (λ v. entry_text v (reply_bytes a.answer.reply)) e.event_is ∙ ap (λ r. entry_text b.event (reply_bytes r)) e.reply_is

same_entries : (xs ys : List Done) → AllAlike xs ys → map entry_of xs ≡ map entry_of ys
same_entries [] [] e = refl
same_entries [] (y ∷ ys) e = absurd e
same_entries (x ∷ xs) [] e = absurd e
same_entries (x ∷ xs) (y ∷ ys) e = ap (λ t. t ∷ map entry_of xs) (same_entry x y e.0) ∙ ap (λ l. entry_of y ∷ l) (same_entries xs ys e.1)

have_alike : (xs ys : List Done) → AllAlike xs ys → AllByRecursion HasEntry xs → AllByRecursion IsRerun ys → AllByRecursion HasEntry ys
have_alike [] [] e h r = tt
have_alike [] (y ∷ ys) e h r = absurd e
have_alike (x ∷ xs) [] e h r = absurd e
have_alike (x ∷ xs) (y ∷ ys) e h r = (have_one x y e.0 h.0 r.0, have_alike xs ys e.1 h.1 r.1)

pub fit_alike : (xs ys : List Done) → AllAlike xs ys → AllByRecursion FitsEntry xs → AllByRecursion IsRerun ys → AllByRecursion FitsEntry ys
fit_alike [] [] e f r = tt
fit_alike [] (y ∷ ys) e f r = absurd e
fit_alike (x ∷ xs) [] e f r = absurd e
fit_alike (x ∷ xs) (y ∷ ys) e f r = (record { words = r.0.words; part = subst IsPart (same_entry x y e.0) f.0.part }, fit_alike xs ys e.1 f.1 r.1)

are_parts : (ds : List Done) → AllByRecursion FitsEntry ds → AllByRecursion IsPart (map entry_of ds)
are_parts [] f = tt
are_parts (d ∷ ds) f = (f.0.part, are_parts ds f.1)

-- ---- one stretch of events

-- it is noted, fits an entry, and was answered as it is when it is run again
pub record IsOwn (d : Done) : Type 0 where
  pub fits : FitsEntry d
  pub has : HasEntry d
  pub rerun : IsRerun d

pub own_of : (done : List Done) → AllByRecursion FitsEntry done → AllByRecursion HasEntry done → AllByRecursion IsServed done → AllByRecursion (λ d. IsSome d.answer.reply) done
    → AllByRecursion IsOwn done
own_of [] f h s a = tt
own_of (d ∷ before) f h s a =
    (record { fits = f.0; has = h.0; rerun = record { served = s.0; answered = a.0; words = f.0.words } }, own_of before f.1 h.1 s.1 a.1)

-- the first of some events, which are alike those that were run again from the front of their journal
pub record Fronts (own again : List Done) (bytes rest lost : List ℕ) : Type 0 where
  pub later : List Done
  pub first : List Done
  pub own_is : own ≡ reverse later ++ first
  pub alike : AllAlike first again
  pub bytes_are : bytes ≡ journal_text again ++ rest
  pub records : AreRecords (rest ++ lost) (map entry_of later) []

module _ (own again : List Done) (bytes rest lost : List ℕ) (are : AllByRecursion IsOwn own) (rerun : AllByRecursion IsRerun again) (cut : bytes ++ lost ≡ journal_text own) (records : AreRecords bytes (map entry_of (reverse again)) rest) where
  fit : AllByRecursion FitsEntry own
  fit = all_of IsOwn FitsEntry own (λ d is. is.fits) are

  have : AllByRecursion HasEntry own
  have = all_of IsOwn HasEntry own (λ d is. is.has) are

  text_is : journal_text own ≡ texts (map entry_of (reverse own))
  text_is = journal_forward own have

  front : (left : List (List ℕ)) × (map entry_of (reverse own) ≡ map entry_of (reverse again) ++ left) × AreRecords (rest ++ lost) left []
  front = front_of (map entry_of (reverse again)) (map entry_of (reverse own)) bytes rest lost (texts (map entry_of (reverse own))) (cut ∙ text_is) records
      (texts_records (map entry_of (reverse own)) (are_parts (reverse own) (all_reverse FitsEntry own fit)))

  matched : (first : List Done) × (back : List Done) × (reverse own ≡ first ++ back) × AllAlike first (reverse again) × (map entry_of back ≡ front.0)
  matched = alike_front (reverse own) (reverse again) front.0 (all_reverse IsRerun own (all_of IsOwn IsRerun own (λ d is. is.rerun) are)) (all_reverse IsRerun again rerun) front.1

  parts : own ≡ reverse matched.1 ++ reverse matched.0
  parts = sym (reverse-reverse own) ∙ ap reverse matched.2 ∙ reverse-append matched.0 matched.1

  like : AllAlike (reverse matched.0) again
  like = subst (AllAlike (reverse matched.0)) (reverse-reverse again) (alike_reverse matched.0 (reverse again) matched.3)

  first_are : AllByRecursion IsOwn (reverse matched.0)
  first_are = all_back IsOwn (reverse matched.1) (reverse matched.0) (subst (AllByRecursion IsOwn) parts are)

  again_fit : AllByRecursion FitsEntry again
  again_fit = fit_alike (reverse matched.0) again like (all_of IsOwn FitsEntry (reverse matched.0) (λ d is. is.fits) first_are) rerun

  again_have : AllByRecursion HasEntry again
  again_have = have_alike (reverse matched.0) again like (all_of IsOwn HasEntry (reverse matched.0) (λ d is. is.has) first_are) rerun

  begins : bytes ++ lost ≡ texts (map entry_of (reverse again)) ++ texts front.0
  begins = cut ∙ text_is ∙ ap texts front.1 ∙ flat_map-append (fragment true) (map entry_of (reverse again)) front.0

  pub fronts : Fronts own again bytes rest lost
  fronts = record {
    later = matched.1;
    first = reverse matched.0;
    own_is = parts;
    alike = like;
    bytes_are = texts_once (map entry_of (reverse again)) bytes rest lost (texts front.0) (are_parts (reverse again) (all_reverse FitsEntry again again_fit)) records begins
        ∙ ap (λ t. t ++ rest) (sym (journal_forward again again_have));
    records = subst (λ left. AreRecords (rest ++ lost) left []) (sym matched.4) front.2;
  }

-- all of them, where nothing is lost and no record is left
pub record IsWhole (own again : List Done) (bytes rest : List ℕ) : Type 0 where
  pub alike : AllAlike own again
  pub rest_is : rest ≡ []
  pub bytes_are : bytes ≡ journal_text again

no_entries : (ds : List Done) → map entry_of ds ≡ [] → ds ≡ []
no_entries [] e = refl
no_entries (d ∷ ds) e = nil_cons (entry_of d) (map entry_of ds) (sym e)

pub whole_again : (own again : List Done) (bytes rest : List ℕ) → AllByRecursion IsOwn own → AllByRecursion IsRerun again → bytes ≡ journal_text own
    → AreRecords bytes (map entry_of (reverse again)) rest → BeginsNone IsRecord rest → IsWhole own again bytes rest
whole_again own again bytes rest are rerun e records none =
    let f = fronts own again bytes rest [] are rerun (append-nil bytes ∙ e) records in
    let left = none_left (map entry_of f.later) rest none (subst (λ t. AreRecords t (map entry_of f.later) []) (append-nil rest) f.records) in
    let all : own ≡ f.first = f.own_is ∙ ap (λ l. reverse l ++ f.first) (no_entries f.later left.0) in
    record {
      alike = subst (λ l. AllAlike l again) (sym all) f.alike;
      rest_is = left.1;
      bytes_are = f.bytes_are ∙ ap (λ t. journal_text again ++ t) left.1 ∙ append-nil (journal_text again);
    }

pub alike_join : (xs ys us vs : List Done) → AllAlike xs ys → AllAlike us vs → AllAlike (xs ++ us) (ys ++ vs)
alike_join [] [] us vs e f = f
alike_join [] (y ∷ ys) us vs e f = absurd e
alike_join (x ∷ xs) [] us vs e f = absurd e
alike_join (x ∷ xs) (y ∷ ys) us vs e f = (e.0, alike_join xs ys us vs e.1 f)

pub without_end : (bytes text rest : List ℕ) → bytes ≡ text ++ rest → take (length bytes - length rest) bytes ≡ text
without_end bytes text rest e =
    let len : length bytes - length rest ≡ length text = omega (arith, ap length e, length-append text rest) in
    ap (λ n. take n bytes) len ∙ ap (take (length text)) e ∙ take-append_seam text rest
