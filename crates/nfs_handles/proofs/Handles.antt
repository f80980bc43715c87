-- A handle names one file, for good.
use Rattle.std.proofs.Common.{◌≡◌, ℕ, ◌^◌, ◌<◌, ◌≤◌, Bool, true, false, cond, not, ◌||◌, List, [], ◌∷◌, length, Option, Some, None, is_some, option_map, nat_eq, nat_le, sym, ap, subst, refl, ◌∙◌, arith}
use Rattle.std.specs.Str.{bytes_eq}
use Rattle.std.proofs.lemmas.Cmp.{nat_list_eq_equiv}
use Rattle.std.proofs.lemmas.Nat.{from_be_bytes-to_be_bytes_4, from_be_bytes-to_be_bytes_8}
use Rattle.std.proofs.lemmas.Bool.{eq-eqb, eqb-true, leb-true}
use Rattle.std.proofs.lemmas.Map.Views.{IfSome-lookup_from_All}
use Rattle.std.specs.Option.{IfSome}
use Rattle.std.proofs.lemmas.Slice.Eq.{bytes_eq-Decides}
use Rattle.nfs_handles.specs.NumberedFiles.{TaggedFile, NumberedFiles, at, IsGiven, IsNumbered}
use Rattle.nfs_handles.specs.Handles.{handle_text, handle_at, is_shaped, key_in, tag_in, number_in, live_with, reading, number}
use Rattle.nfs_handles.specs.declared.number.Number.{Number}
use Rattle.nfs_handles.specs.declared.reading.Reading.{Reading}
use Rattle.nfs_handles.specs.declared.reading.Reading.TheVariants.{Live, Stale, Bad}
use Rattle.nfs_handles.specs.Runs.{HandlesNameOne}
use Rattle.nfs_handles.proofs.Lookups.{live_is_given}

pub record AreParts (bytes key : List ℕ) (tag n : ℕ) : Type 0 where
  pub shaped : is_shaped bytes ≡ true
  pub ours : key_in bytes ≡ key
  pub tagged : tag_in bytes ≡ tag
  pub named : number_in bytes ≡ n

parts_are : (key : List ℕ) (tag n : ℕ) → length key ≡ 8 → tag < 2 ^ 32 → n < 2 ^ 64 → AreParts (handle_text key tag n) key tag n
parts_are (a ∷ b ∷ c ∷ d ∷ e ∷ f ∷ g ∷ h ∷ []) tag n l q m = record {
  shaped = refl;
  ours = refl;
  tagged = from_be_bytes-to_be_bytes_4 tag q;
  named = from_be_bytes-to_be_bytes_8 n m;
}
parts_are [] tag n l q m = absurd (omega (arith, l))
parts_are (a ∷ []) tag n l q m = absurd (omega (arith, l))
parts_are (a ∷ b ∷ []) tag n l q m = absurd (omega (arith, l))
parts_are (a ∷ b ∷ c ∷ []) tag n l q m = absurd (omega (arith, l))
parts_are (a ∷ b ∷ c ∷ d ∷ []) tag n l q m = absurd (omega (arith, l))
parts_are (a ∷ b ∷ c ∷ d ∷ e ∷ []) tag n l q m = absurd (omega (arith, l))
parts_are (a ∷ b ∷ c ∷ d ∷ e ∷ f ∷ []) tag n l q m = absurd (omega (arith, l))
parts_are (a ∷ b ∷ c ∷ d ∷ e ∷ f ∷ g ∷ []) tag n l q m = absurd (omega (arith, l))
parts_are (a ∷ b ∷ c ∷ d ∷ e ∷ f ∷ g ∷ h ∷ i ∷ more) tag n l q m = absurd (omega (arith, l))

-- the cascade over what it asks
abbrev pub judged : Bool → Bool → Bool → Reading → Reading
judged shaped ours ungiven rest = cond (not shaped) Bad (cond (not ours) Stale (cond ungiven Bad rest))

pub bytes_same : (xs ys : List ℕ) → xs ≡ ys → bytes_eq xs ys ≡ true
bytes_same xs ys e = subst (λ l. bytes_eq xs l ≡ true) e (nat_list_eq_equiv.refl xs)

pub no_le : (a b : ℕ) → b < a → nat_le a b ≡ false
no_le a b l = by (nat_le a b) (leb-true a b)
  where
    by : (c : Bool) → (c ≡ true → a ≤ b) → c ≡ false
    by true f = absurd (let k : a ≤ b = f refl in omega arith)
    by false f = refl

pub no_zero : (n : ℕ) → 1 ≤ n → nat_eq n 0 ≡ false
no_zero n l = by (nat_eq n 0) (eqb-true n 0)
  where
    by : (c : Bool) → (c ≡ true → n ≡ 0) → c ≡ false
    by true f = absurd (let k : n ≡ 0 = f refl in omega arith)
    by false f = refl

pub is_given : (next n : ℕ) → IsGiven next n → (nat_eq n 0 || nat_le next n) ≡ false
is_given next n g = ap (λ b. b || nat_le next n) (no_zero n g.counted) ∙ no_le next n g.below

module _ {T : Type 0} (t : NumberedFiles T) where
  pub history_checks : (bytes : List ℕ) (n : ℕ) → is_shaped bytes ≡ true → key_in bytes ≡ t.key → number_in bytes ≡ n → IsGiven t.next n → reading t bytes ≡ live_with (tag_in bytes) n (at t n)
  history_checks bytes n shaped ours names g =
      let m : ℕ = number_in bytes in
      let rest : Reading = live_with (tag_in bytes) m (at t m) in
      let given : (nat_eq m 0 || nat_le t.next m) ≡ false = subst (λ k. (nat_eq k 0 || nat_le t.next k) ≡ false) (sym names) (is_given t.next n g) in
      ap (λ b. judged b (bytes_eq (key_in bytes) t.key) (nat_eq m 0 || nat_le t.next m) rest) shaped
      ∙ ap (λ b. judged true b (nat_eq m 0 || nat_le t.next m) rest) (bytes_same (key_in bytes) t.key ours)
      ∙ ap (λ b. judged true true b rest) given
      ∙ ap (λ k. live_with (tag_in bytes) k (at t k)) names

  pub live_reads : (n : ℕ) (file : TaggedFile T) → IsNumbered t → at t n ≡ Some file → reading t (handle_text t.key file.tag n) ≡ Live (number n)
  live_reads n file h found =
      let given : IsGiven t.next n = live_is_given t n h (ap is_some found) in
      let fits : file.tag < 2 ^ 32 = subst (λ o. IfSome o (λ (f : TaggedFile T). f.tag < 2 ^ 32)) found (IfSome-lookup_from_All (λ (f : TaggedFile T). f.tag < 2 ^ 32) (nat_eq n) t.files h.tags) in
      let whole : n < 2 ^ 64 = omega (arith, given.below, h.last) in
      let parts : AreParts (handle_text t.key file.tag n) t.key file.tag n = parts_are t.key file.tag n h.key_len fits whole in
      history_checks (handle_text t.key file.tag n) n parts.shaped parts.ours parts.named given
      ∙ ap (live_with (tag_in (handle_text t.key file.tag n)) n) found
      ∙ ap (λ b. cond b (Live (number n)) Stale) (eq-eqb (tag_in (handle_text t.key file.tag n)) file.tag parts.tagged)

live_number : Reading → ℕ
live_number (Live m) = m.0
live_number Stale = 0
live_number Bad = 0

pub one_live : (m n : ℕ) → Live (number m) ≡ Live (number n) → m ≡ n
unfolding live_number
one_live m n e = ap live_number e

module _ {T : Type 0} where
  pub record Held (t : NumberedFiles T) (n : ℕ) (handle : List ℕ) : Type 0 where
    pub file : TaggedFile T
    pub found : at t n ≡ Some file
    pub text_is : handle_text t.key file.tag n ≡ handle

  pub held : (t : NumberedFiles T) (n : ℕ) (handle : List ℕ) → handle_at t n ≡ Some handle → Held t n handle
  held t n handle e = by (at t n) refl e
    where
      by : (o : Option (TaggedFile T)) → at t n ≡ o → option_map (λ (file : TaggedFile T). handle_text t.key file.tag n) o ≡ Some handle → Held t n handle
      by None is e = cc
      by (Some file) is e = record { file = file; found = is; text_is = cc }

  handle_reads : (t : NumberedFiles T) (n : ℕ) (handle : List ℕ) → IsNumbered t → handle_at t n ≡ Some handle → reading t handle ≡ Live (number n)
  handle_reads t n handle h e =
      let it : Held t n handle = held t n handle e in
      subst (λ bytes. reading t bytes ≡ Live (number n)) it.text_is (live_reads t n it.file h it.found)

pub handles_name_one : {T : Type 0} → HandlesNameOne T
handles_name_one = record {
  read = handle_reads;
  once = λ t m n handle h p q. one_live m n (sym (handle_reads t m handle h p) ∙ handle_reads t n handle h q);
}

-- ---- what a handle that reads live is

checks_of : (s k g : Bool) (rest : Reading) (m : Number) → judged s k g rest ≡ Live m → (s ≡ true) × (k ≡ true) × (rest ≡ Live m)
checks_of true true false rest m e = (refl, refl, e)
checks_of true true true rest m e = cc
checks_of true false g rest m e = cc
checks_of false k g rest m e = cc

module _ {T : Type 0} where
  pub record Names (t : NumberedFiles T) (n : ℕ) (bytes : List ℕ) : Type 0 where
    pub shaped : is_shaped bytes ≡ true
    pub ours : key_in bytes ≡ t.key
    pub number : number_in bytes ≡ n
    pub file : TaggedFile T
    pub found : at t n ≡ Some file
    pub tag : tag_in bytes ≡ file.tag

  live_of : (tag k n : ℕ) (o : Option (TaggedFile T)) → live_with tag k o ≡ Live (number n) → (k ≡ n) × (file : TaggedFile T) × (o ≡ Some file) × (tag ≡ file.tag)
  live_of tag k n None e = cc
  live_of tag k n (Some file) e = by (nat_eq tag file.tag) refl e
    where
      by : (b : Bool) → nat_eq tag file.tag ≡ b → cond b (Live (number k)) Stale ≡ Live (number n) → (k ≡ n) × (other : TaggedFile T) × (Some file ≡ Some other) × (tag ≡ other.tag)
      by true is e = (one_live k n e, file, refl, eqb-true tag file.tag is)
      by false is e = cc

  pub names : (t : NumberedFiles T) (n : ℕ) (bytes : List ℕ) → reading t bytes ≡ Live (number n) → Names t n bytes
  names t n bytes e =
      let m : ℕ = number_in bytes in
      let c = checks_of (is_shaped bytes) (bytes_eq (key_in bytes) t.key) (nat_eq m 0 || nat_le t.next m) (live_with (tag_in bytes) m (at t m)) (number n) e in
      let l = live_of (tag_in bytes) m n (at t m) c.2 in
      record {
        shaped = c.0;
        ours = (bytes_eq-Decides (key_in bytes) t.key).0 c.1;
        number = l.0;
        file = l.1;
        found = subst (λ k. at t k ≡ Some l.1) l.0 l.2;
        tag = l.3;
      }
