-- Where two lists of fragments stand at the front of the same bytes, one goes on from the other.
use Rattle.std.proofs.Common.{◌≡◌, ℕ, ◌^◌, ◌<◌, Bool, true, false, List, [], ◌∷◌, ◌++◌, length, take, drop, refl, sym, ap, subst, ◌∙◌, append_assoc, arith}
use Rattle.std.specs.Int.{w32}
use Rattle.std.specs.List.{AllByRecursion}
use Rattle.std.proofs.lemmas.List.{take_at, drop_at, append_cancel_left}
use Rattle.std.proofs.lemmas.List.Concat.{flat_map-append}
use Rattle.nfs_xdr.specs.Encoding.{IsNumber, EncodesOnce}
use Rattle.nfs_xdr.specs.Reading.{number_at}
use Rattle.nfs_xdr.proofs.Finding.{once}
use Rattle.nfs_xdr.proofs.Items.{finds_u32}
use Rattle.nfs_rpc.specs.Records.{mark, header, fragment, IsPart, unended, joined}

split_same : (a b x y : List ℕ) → length a ≡ length b → a ++ x ≡ b ++ y → (a ≡ b) × (x ≡ y)
split_same a b x y len e = (
  sym (take_at a x (length b) len) ∙ ap (take (length b)) e ∙ take_at b y (length b) refl,
  sym (drop_at a x (length b) len) ∙ ap (drop (length b)) e ∙ drop_at b y (length b) refl,
)

pub number_once : EncodesOnce (IsNumber w32)
number_once = once (IsNumber w32) (number_at w32) finds_u32

mark_once : (b c : Bool) (m n : ℕ) → m < 2 ^ 31 → n < 2 ^ 31 → mark b m ≡ mark c n → (b ≡ c) × (m ≡ n)
mark_once true true m n p q e = (refl, omega arith)
mark_once false false m n p q e = (refl, e)
mark_once true false m n p q e = absurd (omega arith)
mark_once false true m n p q e = absurd (omega arith)

mark_fits : (b : Bool) (m : ℕ) → m < 2 ^ 31 → mark b m < 2 ^ 32
mark_fits true m p = omega arith
mark_fits false m p = omega arith

pub header_once : (b c : Bool) (m n : ℕ) (x y : List ℕ) → m < 2 ^ 31 → n < 2 ^ 31 → header b m ++ x ≡ header c n ++ y → (b ≡ c) × (m ≡ n) × (x ≡ y)
header_once b c m n x y p q e =
    let same = number_once (mark b m) (mark c n) (header b m) (header c n) x y (record { fits = mark_fits b m p; text_is = refl }) (record { fits = mark_fits c n q; text_is = refl }) e in
    let marks = mark_once b c m n p q same.0 in
    (marks.0, marks.1, append_cancel_left (header c n) x y (ap (λ t. t ++ x) (sym same.1) ∙ e))

pub fragment_once : (b c : Bool) (f g x y : List ℕ) → IsPart f → IsPart g → fragment b f ++ x ≡ fragment c g ++ y → (b ≡ c) × (f ≡ g) × (x ≡ y)
fragment_once b c f g x y p q e =
    let regrouped : header b (length f) ++ (f ++ x) ≡ header c (length g) ++ (g ++ y) = sym (append_assoc (header b (length f)) f x) ∙ e ∙ append_assoc (header c (length g)) g y in
    let heads = header_once b c (length f) (length g) (f ++ x) (g ++ y) p q regrouped in
    let contents = split_same f g x y heads.1 heads.2 in
    (heads.0, contents.0, contents.1)

-- one list of fragments goes on from the other
pub data GoesOn (ps qs : List (List ℕ)) (s t : List ℕ) : Type 0 where
  LeftFirst : (more : List (List ℕ)) → AllByRecursion IsPart more → qs ≡ ps ++ more → s ≡ unended more ++ t → GoesOn ps qs s t
  RightFirst : (part : List ℕ) (more : List (List ℕ)) → AllByRecursion IsPart (part ∷ more) → ps ≡ qs ++ part ∷ more → t ≡ unended (part ∷ more) ++ s → GoesOn ps qs s t

abbrev under : (p : List ℕ) (ps qs : List (List ℕ)) (s t : List ℕ) → GoesOn ps qs s t → GoesOn (p ∷ ps) (p ∷ qs) s t
under p ps qs s t (LeftFirst more are e f) = LeftFirst more are (ap (λ l. p ∷ l) e) f
under p ps qs s t (RightFirst part more are e f) = RightFirst part more are (ap (λ l. p ∷ l) e) f

pub go_on : (ps qs : List (List ℕ)) (s t : List ℕ) → AllByRecursion IsPart ps → AllByRecursion IsPart qs → unended ps ++ s ≡ unended qs ++ t → GoesOn ps qs s t
go_on [] qs s t ps-are qs-are e = LeftFirst qs qs-are refl e
go_on (p ∷ ps) [] s t ps-are qs-are e = RightFirst p ps ps-are refl (sym e)
go_on (p ∷ ps) (q ∷ qs) s t ps-are qs-are e =
    let one = fragment_once false false p q (unended ps ++ s) (unended qs ++ t) ps-are.0 qs-are.0 (sym (append_assoc (fragment false p) (unended ps) s) ∙ e ∙ append_assoc (fragment false q) (unended qs) t) in
    subst (λ h. GoesOn (p ∷ ps) (h ∷ qs) s t) one.1 (under p ps qs s t (go_on ps qs s t ps-are.1 qs-are.1 one.2))

pub joined-append : (ps qs : List (List ℕ)) → joined (ps ++ qs) ≡ joined ps ++ joined qs
joined-append ps qs = flat_map-append (λ part. part) ps qs

pub unended-append : (ps qs : List (List ℕ)) → unended (ps ++ qs) ≡ unended ps ++ unended qs
unended-append ps qs = flat_map-append (fragment false) ps qs

pub are_parts-append : (ps qs : List (List ℕ)) → AllByRecursion IsPart ps → AllByRecursion IsPart qs → AllByRecursion IsPart (ps ++ qs)
are_parts-append [] qs ps-are qs-are = qs-are
are_parts-append (p ∷ ps) qs ps-are qs-are = (ps-are.0, are_parts-append ps qs ps-are.1 qs-are)
