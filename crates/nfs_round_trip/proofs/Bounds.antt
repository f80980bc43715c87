-- What fields say is within the bounds of what is written.
use Rattle.std.proofs.Common.{◌≡◌, ℕ, suc, zero, ◌*◌, ◌-◌, ◌<◌, ◌≤◌, ◌^◌, ◌&&◌, Bool, true, false, List, [], ◌∷◌, length, nat_eq, Option, Some, None, option_map, Ok, refl, sym, ap}
use Rattle.std.proofs.Common.{subst, ◌∙◌, arith}
use Rattle.std.specs.Prelude.{Err, Result, bytes_eq, codes, if◌then◌else◌, nat_le, nat_lt}
use Rattle.std.specs.List.{list_all}
use Rattle.std.specs.Option.{ok_or, unwrap_or}
use Rattle.std.specs.Str.Parse.{digits_value}
use Rattle.std.specs.Char.{is_ascii_digit}
use Rattle.std.specs.Int.{from_be_bytes, w32}
use Rattle.hex.specs.Hex.{IsBytes, decode_of, decode_sized}
use Rattle.hex.specs.declared.error.FromHexError.{FromHexError}
use Rattle.hex.proofs.HexLemmas.{decode_of-ok, decode_sized-ok, decode_sized-twice}
use Rattle.nfs_attrs.specs.declared.moment.Moment.{Moment}
use Rattle.nfs_text.specs.Numbers.{decimal_of, is_decimal}
use Rattle.nfs_text.specs.Chunks.{cut, chunks}
use Rattle.nfs_exports.specs.Addresses as addresses
use Rattle.nfs_exports.specs.Addresses.{address_of, number_of_parts, number_of_chunks, part}
use Rattle.nfs_exports.specs.Options.{default_options}
use Rattle.nfs_exports.specs.Patterns.{any, bits_or_all, network_of, pattern_of}
use Rattle.nfs_exports.specs.Settings.{agreed, nothing, options_of, parse_options, same_flag, with_setting, with_words}
use Rattle.nfs_exports.specs.Words as words
use Rattle.nfs_exports.specs.Words.{flag_of, id_of, is_unsupported, is_without_effect, parts_of, setting_of, value_of}
use Rattle.nfs_exports.specs.declared.addr.Addr.{Addr}
use Rattle.nfs_exports.specs.declared.options.Options.{Options}
use Rattle.nfs_exports.specs.declared.options.OptionsFault.{OptionsFault}
use Rattle.nfs_exports.specs.declared.options.OptionsFault.TheVariants.{BadNumber, Contradiction, UnknownOption, UnsupportedOption}
use Rattle.nfs_exports.specs.declared.pattern.Pattern.{Pattern}
use Rattle.nfs_exports.specs.declared.setting.Setting.{Setting}
use Rattle.nfs_exports.specs.declared.setting.Setting.TheVariants.{ReadOnly, RootSquash, AllSquash, AnonUid, AnonGid, Nothing}
use Rattle.nfs_exports.specs.declared.settings.Settings.{Settings}
use Rattle.nfs_inodes.proofs.Lists.{by_test, not_both, same_some}
use Rattle.nfs_load.specs.Fields.{◌>>=◌, at_least, after, by, content_in, found_pattern, key_in, mode_in, keyed, number_in, options_at, options_or_cause}
use Rattle.nfs_load.specs.Fields.{pattern_in, within}
use Rattle.nfs_load.specs.Moments.{IsTime, after_plus, after_point, fraction_in, moment_in, moment_of, seconds_in, units_in}
use Rattle.nfs_load.specs.Statements.{given_in, id_in}
use Rattle.nfs_load.specs.declared.cause.Cause.{Cause}
use Rattle.nfs_load.specs.declared.cause.Cause.TheVariants.{BadContent, BadNumber as BadNumberCause}
use Rattle.nfs_load.specs.declared.statement.Given.{Given}
use Rattle.nfs_round_trip.proofs.Runs.{same_ok}
use Rattle.nfs_round_trip.proofs.Truths.{both, within as at_most}

-- ---- what was read before

pub bind_is : {A B E : Type 0} (r : Result A E) (f : A → Result B E) (b : B) → r >>= f ≡ Ok b → (a : A) × (r ≡ Ok a) × (f a ≡ Ok b)
bind_is (Ok a) f b e = (a, refl, e)
bind_is (Err x) f b e = cc

pub by_is : {A : Type 0} (read : List ℕ → Result A Cause) (fields : List (List ℕ)) (a : A) (rest : List (List ℕ)) → by read fields ≡ Ok (a, rest)
    → (field : List ℕ) × (fields ≡ field ∷ rest) × (read field ≡ Ok a)
by_is read [] a rest e = cc
by_is {A} read (field ∷ fields) a rest e = from (read field) refl e
  where
    from : (r : Result A Cause) → read field ≡ r → after fields r ≡ Ok (a, rest) → (f : List ℕ) × (field ∷ fields ≡ f ∷ rest) × (read f ≡ Ok a)
    from (Ok x) is e = let p = same_ok (after fields (Ok x)) (x, fields) (a, rest) refl e in
        (field, ap (λ (q : A × List (List ℕ)). field ∷ q.1) p, is ∙ ap (λ (q : A × List (List ℕ)). Ok q.0) p)
    from (Err cause) is e = cc

pub err_is : {A E : Type 0} (r : Result A E) (x : E) (a : A) → r ≡ Err x → r ≡ Ok a → ⊥
err_is r x a one two = cc

pub if_ok : {A E P : Type 0} (b : Bool) (x y : Result A E) (a : A) → (x ≡ Ok a → P) → (y ≡ Ok a → P) → (if b then x else y) ≡ Ok a → P
if_ok true x y a one two e = one e
if_ok false x y a one two e = two e

-- ---- numbers

pub decimal_bound : (max : ℕ) (text : List ℕ) (n : ℕ) → decimal_of max text ≡ Some n → n ≤ max
decimal_bound max text n e = by_test (is_decimal max text)
    (λ y.
    let is : digits_value 10 text ≡ n = same_some (sym (ap (λ b. if b then Some (digits_value 10 text) else None) y) ∙ e) in
    let high = at_most (digits_value 10 text) max (both (list_all is_ascii_digit text) (nat_le (digits_value 10 text) max)
    (both (nat_lt 0 (length text)) (list_all is_ascii_digit text && nat_le (digits_value 10 text) max) y).1).1 in
    omega (arith, is, high))
    (λ o. absurd (not_both (ap (λ b. if b then Some (digits_value 10 text) else None) o) e))

pub number_bound : (min max : ℕ) (field : List ℕ) (n : ℕ) → number_in min max field ≡ Ok n → n ≤ max
number_bound min max field n e = from (decimal_of max field) refl e
  where
    from : (o : Option ℕ) → decimal_of max field ≡ o → at_least min o ≡ Ok n → n ≤ max
    from None is e = cc
    from (Some m) is e = by_test (nat_le min m)
        (λ y. decimal_bound max field n (is ∙ ap Some (same_ok (at_least min (Some m)) m n (ap (λ b. if b then Ok m else Err BadNumberCause) y) e)))
        (λ o. absurd (err_is (at_least min (Some m)) BadNumberCause n (ap (λ b. if b then Ok m else Err BadNumberCause) o) e))

abbrev Left : Type 0 → Type 0
Left A = A × List (List ℕ)

pub given_bound : (fields : List (List ℕ)) (given : Given) (rest : List (List ℕ)) → given_in fields ≡ Ok (given, rest) → (given.uid < 2 ^ 32)
    × (given.gid < 2 ^ 32)
given_bound fields given rest e =
    let mode = bind_is (by mode_in fields) (λ (mode : Left ℕ). by id_in mode.1 >>= (λ (uid : Left ℕ). by id_in uid.1 >>= (λ (gid : Left ℕ).
    Ok (record { mode = mode.0; uid = uid.0; gid = gid.0 }, gid.1)))) (given, rest) e in
    let uid = bind_is (by id_in mode.0.1) (λ (uid : Left ℕ). by id_in uid.1 >>=
    (λ (gid : Left ℕ). Ok (record { mode = mode.0.0; uid = uid.0; gid = gid.0 }, gid.1))) (given, rest) mode.2 in
    let gid = bind_is (by id_in uid.0.1) (λ (gid : Left ℕ). Ok (record { mode = mode.0.0; uid = uid.0.0; gid = gid.0 }, gid.1)) (given, rest) uid.2 in
    let made : Given = record { mode = mode.0.0; uid = uid.0.0; gid = gid.0.0 } in
    let whole : ◌≡◌ {A = Given × List (List ℕ)} (made, gid.0.1) (given, rest) = same_ok {E = Cause} (Ok (made, gid.0.1)) (made, gid.0.1)
    (given, rest) refl gid.2 in
    let same : made ≡ given = ap (λ (p : Given × List (List ℕ)). p.0) whole in
    let u = by_is id_in mode.0.1 uid.0.0 uid.0.1 uid.1 in
    let g = by_is id_in uid.0.1 gid.0.0 gid.0.1 gid.1 in
    let high_u = number_bound 0 4294967295 u.0 uid.0.0 u.2 in
    let high_g = number_bound 0 4294967295 g.0 gid.0.0 g.2 in
    subst (λ (it : Given). (it.uid < 2 ^ 32) × (it.gid < 2 ^ 32)) same (omega (arith, high_u), omega (arith, high_g))

-- ---- bytes

pub key_bound : (field key : List ℕ) → key_in field ≡ Ok key → (length key ≡ 8) × IsBytes key
key_bound field key e = from (decode_sized field 8) refl e
  where
    from : (r : Result (List ℕ) FromHexError) → decode_sized field 8 ≡ r → keyed r ≡ Ok key → (length key ≡ 8) × IsBytes key
    from (Err x) is e = cc
    from (Ok bytes) is e =
        let same : bytes ≡ key = same_ok (keyed (Ok bytes)) bytes key refl e in
        let long = decode_sized-ok field 8 bytes is in
        let d = decode_of-ok field bytes (sym (decode_sized-twice field 8 long) ∙ is) in
        let twice = d.2 in
        (let l = ap length same in omega (arith, long, twice, l), subst IsBytes same d.3)

pub content_bound : (most : ℕ) (field content : List ℕ) → content_in most field ≡ Ok content → IsBytes content
content_bound most field content e = if_ok (bytes_eq field (codes "-")) (Ok []) (within most (decode_of field)) content
    (λ one. subst IsBytes (same_ok (Ok []) [] content refl one) none)
    (from (decode_of field) refl) e
  where
    none : IsBytes []
    none i = omega arith

    from : (r : Result (List ℕ) FromHexError) → decode_of field ≡ r → within most r ≡ Ok content → IsBytes content
    from (Err x) is e = cc
    from (Ok bytes) is e = if_ok (nat_le (length bytes) most) (Ok bytes) (Err BadContent) content
        (λ one. subst IsBytes (same_ok (Ok bytes) bytes content refl one) (decode_of-ok field bytes is).3)
        (λ two. absurd (err_is (Err BadContent) BadContent content refl two)) e

-- ---- times

seconds_bound : (text : List ℕ) (n : ℕ) → seconds_in text ≡ Ok n → n < 2 ^ 32
seconds_bound text n e = let high = number_bound 0 4294967295 text n e in omega (arith, high)

-- so many digits after a point are less than a second
scaled : (k n : ℕ) → k ≤ 9 → n ≤ 10 ^ k - 1 → n * 10 ^ (9 - k) < 2 ^ 32
scaled zero n few high = omega (arith, high)
scaled (suc zero) n few high = omega (arith, high)
scaled (suc (suc zero)) n few high = omega (arith, high)
scaled (suc (suc (suc zero))) n few high = omega (arith, high)
scaled (suc (suc (suc (suc zero)))) n few high = omega (arith, high)
scaled (suc (suc (suc (suc (suc zero))))) n few high = omega (arith, high)
scaled (suc (suc (suc (suc (suc (suc zero)))))) n few high = omega (arith, high)
scaled (suc (suc (suc (suc (suc (suc (suc zero))))))) n few high = omega (arith, high)
scaled (suc (suc (suc (suc (suc (suc (suc (suc zero)))))))) n few high = omega (arith, high)
scaled (suc (suc (suc (suc (suc (suc (suc (suc (suc zero))))))))) n few high = omega (arith, high)
scaled (suc (suc (suc (suc (suc (suc (suc (suc (suc (suc k)))))))))) n few high = absurd (omega (arith, few))

fraction_bound : (text : List ℕ) (n : ℕ) → fraction_in text ≡ Ok n → n < 2 ^ 32
fraction_bound text n e = by_test (nat_lt 0 (length text) && nat_le (length text) 9)
    (λ y.
    let scale : ℕ → Result ℕ Cause = λ (d : ℕ). Ok (d * 10 ^ (9 - length text)) in
    let d = bind_is (number_in 0 (10 ^ length text - 1) text) scale n (sym (ap (λ b. if b then read else Err BadNumberCause) y) ∙ e) in
    let few = at_most (length text) 9 (both (nat_lt 0 (length text)) (nat_le (length text) 9) y).1 in
    subst (λ m. m < 2 ^ 32) (same_ok (scale d.0) (d.0 * 10 ^ (9 - length text)) n refl d.2)
    (scaled (length text) d.0 few (number_bound 0 (10 ^ length text - 1) text d.0 d.1)))
    (λ o. absurd (err_is (fraction_in text) BadNumberCause n (ap (λ b. if b then read else Err BadNumberCause) o) e))
  where
    read : Result ℕ Cause
    read = units_in (10 ^ length text - 1) (10 ^ (9 - length text)) text

moment_of_bound : (whole beyond : Result ℕ Cause) (m : Moment) → ((n : ℕ) → whole ≡ Ok n → n < 2 ^ 32) → ((n : ℕ) → beyond ≡ Ok n → n < 2 ^ 32)
    → moment_of whole beyond ≡ Ok m → IsTime m
moment_of_bound (Ok seconds) (Ok nanos) m one two e =
    let made : Moment = record { seconds = seconds; nanos = nanos } in
    subst IsTime (same_ok {E = Cause} (Ok made) made m refl e) (one seconds refl, two nanos refl)
moment_of_bound (Ok seconds) (Err cause) m one two e = cc
moment_of_bound (Err cause) beyond m one two e = cc

plus_bound : (whole : List ℕ) (beyond : Option (List ℕ)) (m : Moment) → after_plus whole beyond ≡ Ok m → IsTime m
plus_bound whole None m e = moment_of_bound (seconds_in whole) (Ok 0) m (seconds_bound whole)
    (λ n is. let same : 0 ≡ n = same_ok {E = Cause} (Ok 0) 0 n refl is in omega (arith, same)) e
plus_bound whole (Some nanos) m e = moment_of_bound (seconds_in whole) (seconds_in nanos) m (seconds_bound whole) (seconds_bound nanos) e

point_bound : (whole : List ℕ) (beyond : Option (List ℕ)) (m : Moment) → after_point whole beyond ≡ Ok m → IsTime m
point_bound whole None m e = plus_bound (cut 43 whole).0 (cut 43 whole).1 m e
point_bound whole (Some fraction) m e = moment_of_bound (seconds_in whole) (fraction_in fraction) m (seconds_bound whole) (fraction_bound fraction) e

pub moment_bound : (field : List ℕ) (m : Moment) → moment_in field ≡ Ok m → IsTime m
moment_bound field m e = point_bound (cut 46 field).0 (cut 46 field).1 m e

-- ---- patterns

pub some_bind : {A B : Type 0} (o : Option A) (f : A → Option B) (b : B) → addresses.◌>>=◌ o f ≡ Some b → (a : A) × (o ≡ Some a) × (f a ≡ Some b)
some_bind None f b e = cc
some_bind (Some a) f b e = (a, refl, e)

if_some : {A P : Type 0} (b : Bool) (x y : Option A) (a : A) → (x ≡ Some a → P) → (y ≡ Some a → P) → (if b then x else y) ≡ Some a → P
if_some true x y a one two e = one e
if_some false x y a one two e = two e

part_bound : (text : List ℕ) (n : ℕ) → part text ≡ Some n → n ≤ 255
part_bound text n e = if_some (nat_lt 3 (length text)) None (decimal_of 255 text) n (λ one. absurd (not_both refl one)) (decimal_bound 255 text n) e

four_bound : (a b c d n : ℕ) → a ≤ 255 → b ≤ 255 → c ≤ 255 → d ≤ 255 → from_be_bytes w32 (a ∷ b ∷ c ∷ d ∷ []) ≡ n → n < 2 ^ 32
four_bound a b c d n one two three four e = omega (arith, e)

parts_bound : (a b c d : List ℕ) (n : ℕ) → number_of_parts a b c d ≡ Some n → n < 2 ^ 32
parts_bound a b c d n e =
    let one = some_bind (part a) (λ (a : ℕ). addresses.◌>>=◌ (part b)
    (λ (b : ℕ). addresses.◌>>=◌ (part c) (λ (c : ℕ). addresses.◌>>=◌ (part d) (λ (d : ℕ). Some (from_be_bytes w32 (a ∷ b ∷ c ∷ d ∷ [])))))) n e in
    let two = some_bind (part b) (λ (b : ℕ). addresses.◌>>=◌ (part c)
    (λ (c : ℕ). addresses.◌>>=◌ (part d) (λ (d : ℕ). Some (from_be_bytes w32 (one.0 ∷ b ∷ c ∷ d ∷ []))))) n one.2 in
    let three = some_bind (part c) (λ (c : ℕ). addresses.◌>>=◌ (part d) (λ (d : ℕ). Some (from_be_bytes w32 (one.0 ∷ two.0 ∷ c ∷ d ∷ [])))) n two.2 in
    let four = some_bind (part d) (λ (d : ℕ). Some (from_be_bytes w32 (one.0 ∷ two.0 ∷ three.0 ∷ d ∷ []))) n three.2 in
    four_bound one.0 two.0 three.0 four.0 n (part_bound a one.0 one.1) (part_bound b two.0 two.1) (part_bound c three.0 three.1) (part_bound d four.0 four.1)
    (same_some four.2)

chunks_bound : (ps : List (List ℕ)) (n : ℕ) → number_of_chunks ps ≡ Some n → n < 2 ^ 32
chunks_bound (a ∷ b ∷ c ∷ d ∷ []) n e = parts_bound a b c d n e
chunks_bound [] n e = cc
chunks_bound (a ∷ []) n e = cc
chunks_bound (a ∷ b ∷ []) n e = cc
chunks_bound (a ∷ b ∷ c ∷ []) n e = cc
chunks_bound (a ∷ b ∷ c ∷ d ∷ f ∷ rest) n e = cc

address_bound : (text : List ℕ) (a : Addr) → address_of text ≡ Some a → a.0 < 2 ^ 32
address_bound text a e = from (number_of_chunks (chunks 46 text)) refl e
  where
    from : (o : Option ℕ) → number_of_chunks (chunks 46 text) ≡ o → option_map (λ n. record { 0 = n }) o ≡ Some a → a.0 < 2 ^ 32
    from None is e = cc
    from (Some n) is e = subst (λ (x : Addr). x.0 < 2 ^ 32) (same_some e) (chunks_bound (chunks 46 text) n is)

bits_bound : (o : Option (List ℕ)) (n : ℕ) → bits_or_all o ≡ Some n → n ≤ 32
bits_bound None n e = let is : 32 ≡ n = same_some e in omega (arith, is)
bits_bound (Some text) n e = if_some (nat_lt 2 (length text)) None (decimal_of 32 text) n (λ one. absurd (not_both refl one)) (decimal_bound 32 text n) e

pub pattern_bound : (field : List ℕ) (p : Pattern) → pattern_in field ≡ Ok p → (p.bits ≤ 32) × (p.address.0 < 2 ^ 32)
pattern_bound field p e = found (pattern_of field) refl e
  where
    network : network_of (cut 47 field) ≡ Some p → (p.bits ≤ 32) × (p.address.0 < 2 ^ 32)
    network e =
        let a = some_bind (address_of (cut 47 field).0) (λ (a : Addr). addresses.◌>>=◌ (bits_or_all (cut 47 field).1)
        (λ (b : ℕ). Some (record { address = a; bits = b }))) p e in
        let b = some_bind (bits_or_all (cut 47 field).1) (λ (b : ℕ). Some (record { address = a.0; bits = b })) p a.2 in
        subst (λ (q : Pattern). (q.bits ≤ 32) × (q.address.0 < 2 ^ 32)) (same_some b.2)
        (bits_bound (cut 47 field).1 b.0 b.1, address_bound (cut 47 field).0 a.0 a.1)

    found : (o : Option Pattern) → pattern_of field ≡ o → found_pattern o ≡ Ok p → (p.bits ≤ 32) × (p.address.0 < 2 ^ 32)
    found None is e = cc
    found (Some q) is e = if_some (bytes_eq field (42 ∷ [])) (Some any) (network_of (cut 47 field)) p
        (λ one. subst (λ (r : Pattern). (r.bits ≤ 32) × (r.address.0 < 2 ^ 32)) (same_some one) (omega arith, omega arith)) network
        (is ∙ ap Some (same_ok (found_pattern (Some q)) q p refl e))

-- ---- options

abbrev Bounded : Setting → Type 0
Bounded (ReadOnly b) = Unit {0}
Bounded (RootSquash b) = Unit {0}
Bounded (AllSquash b) = Unit {0}
Bounded (AnonUid id) = id < 2 ^ 32
Bounded (AnonGid id) = id < 2 ^ 32
Bounded Nothing = Unit {0}

setting_is : (x s : Setting) (r : Result Setting OptionsFault) → r ≡ Ok x → r ≡ Ok s → Bounded x → Bounded s
setting_is x s r one two b = subst Bounded (same_ok r x s one two) b

none_is : {A : Type 0} (fault : OptionsFault) (a : A) (r : Result A OptionsFault) → r ≡ Err fault → r ≡ Ok a → ⊥
none_is fault a r one two = cc

flag_bound : (name : List ℕ) (s : Setting) → flag_of name ≡ Ok s → Bounded s
flag_bound name s e =
    if_ok (bytes_eq name (codes "ro")) (Ok (ReadOnly true)) _ s (λ x. setting_is (ReadOnly true) s (Ok (ReadOnly true)) refl x tt)
    (if_ok (bytes_eq name (codes "rw")) (Ok (ReadOnly false)) _ s (λ x. setting_is (ReadOnly false) s (Ok (ReadOnly false)) refl x tt)
    (if_ok (bytes_eq name (codes "root_squash")) (Ok (RootSquash true)) _ s (λ x. setting_is (RootSquash true) s (Ok (RootSquash true)) refl x tt)
    (if_ok (bytes_eq name (codes "no_root_squash")) (Ok (RootSquash false)) _ s (λ x. setting_is (RootSquash false) s (Ok (RootSquash false)) refl x tt)
    (if_ok (bytes_eq name (codes "all_squash")) (Ok (AllSquash true)) _ s (λ x. setting_is (AllSquash true) s (Ok (AllSquash true)) refl x tt)
    (if_ok (bytes_eq name (codes "no_all_squash")) (Ok (AllSquash false)) _ s (λ x. setting_is (AllSquash false) s (Ok (AllSquash false)) refl x tt)
    (if_ok (bytes_eq name (codes "sec")) (Err UnsupportedOption) _ s (λ x. absurd (none_is UnsupportedOption s (Err UnsupportedOption) refl x))
    (if_ok (is_without_effect name) (Ok Nothing) (Err UnknownOption) s (λ x. setting_is Nothing s (Ok Nothing) refl x tt)
    (λ x. absurd (none_is UnknownOption s (Err UnknownOption) refl x))))))))) e

abbrev IdsBounded : Settings → Type 0
IdsBounded settings = ((id : ℕ) → settings.anonuid ≡ Some id → id < 2 ^ 32) × ((id : ℕ) → settings.anongid ≡ Some id → id < 2 ^ 32)

words_bind : {A B : Type 0} (r : Result A OptionsFault) (f : A → Result B OptionsFault) (b : B) → words.◌>>=◌ r f ≡ Ok b → (a : A) × (r ≡ Ok a) × (f a ≡ Ok b)
words_bind (Ok a) f b e = (a, refl, e)
words_bind (Err x) f b e = cc

id_bound : (text : List ℕ) (n : ℕ) → id_of text ≡ Ok n → n < 2 ^ 32
id_bound text n e = from (decimal_of 4294967295 text) refl e
  where
    from : (o : Option ℕ) → decimal_of 4294967295 text ≡ o → ok_or o BadNumber ≡ Ok n → n < 2 ^ 32
    from None is e = cc
    from (Some m) is e = let high = decimal_bound 4294967295 text m is in let same : m ≡ n = same_ok (ok_or (Some m) BadNumber) m n refl e in
        omega (arith, high, same)

value_bound : (name value : List ℕ) (s : Setting) → value_of name value ≡ Ok s → Bounded s
value_bound name value s e =
    if_ok (bytes_eq name (codes "anonuid")) (words.◌>>=◌ (id_of value) (λ (id : ℕ). Ok (AnonUid id))) _ s
    (λ x. let b = words_bind (id_of value) (λ (id : ℕ). Ok (AnonUid id)) s x in setting_is (AnonUid b.0) s (Ok (AnonUid b.0)) refl b.2 (id_bound value b.0 b.1))
    (if_ok (bytes_eq name (codes "anongid")) (words.◌>>=◌ (id_of value) (λ (id : ℕ). Ok (AnonGid id))) _ s
    (λ x. let b = words_bind (id_of value) (λ (id : ℕ). Ok (AnonGid id)) s x in setting_is (AnonGid b.0) s (Ok (AnonGid b.0)) refl b.2 (id_bound value b.0 b.1))
    (if_ok (bytes_eq name (codes "sec")) (if bytes_eq value (codes "sys") then Ok Nothing else Err UnsupportedOption) (Err UnknownOption) s
    (if_ok (bytes_eq value (codes "sys")) (Ok Nothing) (Err UnsupportedOption) s (λ x. setting_is Nothing s (Ok Nothing) refl x tt)
    (λ x. absurd (none_is UnsupportedOption s (Err UnsupportedOption) refl x)))
    (λ x. absurd (none_is UnknownOption s (Err UnknownOption) refl x)))) e

parts_kept : (parts : List ℕ × Option (List ℕ)) (s : Setting) → parts_of parts ≡ Ok s → Bounded s
parts_kept (name, None) s e = if_ok (is_unsupported name) (Err UnsupportedOption)
    (flag_of name) s (λ x. absurd (none_is UnsupportedOption s (Err UnsupportedOption) refl x)) (flag_bound name s) e
parts_kept (name, Some value) s e =
    if_ok (is_unsupported name) (Err UnsupportedOption) (value_of name value) s (λ x. absurd (none_is UnsupportedOption s (Err UnsupportedOption) refl x))
    (value_bound name value s) e

agreed_is : (o : Option ℕ) (said n : ℕ) → agreed nat_eq o said ≡ Ok n → said ≡ n
agreed_is None said n e = same_ok (agreed nat_eq None said) said n refl e
agreed_is (Some earlier) said n e = if_ok (nat_eq earlier said) (Ok said) (Err Contradiction) n
    (λ one. same_ok {E = OptionsFault} (Ok said) said n refl one) (λ two. absurd (none_is Contradiction n (Err Contradiction) refl two)) e

ids_are : (x more : Settings) (r : Result Settings OptionsFault) → r ≡ Ok x → r ≡ Ok more → IdsBounded x → IdsBounded more
ids_are x more r one two ids = subst IdsBounded (same_ok r x more one two) ids

setting_kept : (settings more : Settings) (s : Setting) → IdsBounded settings → Bounded s → with_setting settings s ≡ Ok more → IdsBounded more
setting_kept settings more (ReadOnly b) ids bound e =
    let a = words_bind (agreed same_flag settings.read_only b) (λ (on : Bool). Ok (record settings { read_only = Some on })) more e in
    ids_are (record settings { read_only = Some a.0 }) more (Ok (record settings { read_only = Some a.0 })) refl a.2 ids
setting_kept settings more (RootSquash b) ids bound e =
    let a = words_bind (agreed same_flag settings.root_squash b) (λ (on : Bool). Ok (record settings { root_squash = Some on })) more e in
    ids_are (record settings { root_squash = Some a.0 }) more (Ok (record settings { root_squash = Some a.0 })) refl a.2 ids
setting_kept settings more (AllSquash b) ids bound e =
    let a = words_bind (agreed same_flag settings.all_squash b) (λ (on : Bool). Ok (record settings { all_squash = Some on })) more e in
    ids_are (record settings { all_squash = Some a.0 }) more (Ok (record settings { all_squash = Some a.0 })) refl a.2 ids
setting_kept settings more (AnonUid id) ids bound e =
    let a = words_bind (agreed nat_eq settings.anonuid id) (λ (on : ℕ). Ok (record settings { anonuid = Some on })) more e in
    ids_are (record settings { anonuid = Some a.0 }) more (Ok (record settings { anonuid = Some a.0 })) refl a.2
    ((λ n is. subst (λ (m : ℕ). m < 2 ^ 32) (agreed_is settings.anonuid id a.0 a.1 ∙ same_some is) bound), ids.1)
setting_kept settings more (AnonGid id) ids bound e =
    let a = words_bind (agreed nat_eq settings.anongid id) (λ (on : ℕ). Ok (record settings { anongid = Some on })) more e in
    ids_are (record settings { anongid = Some a.0 }) more (Ok (record settings { anongid = Some a.0 })) refl a.2
    (ids.0, (λ n is. subst (λ (m : ℕ). m < 2 ^ 32) (agreed_is settings.anongid id a.0 a.1 ∙ same_some is) bound))
setting_kept settings more Nothing ids bound e = ids_are settings more (with_setting settings Nothing) refl e ids

words_kept : (ws : List (List ℕ)) (settings last : Settings) → IdsBounded settings → with_words settings ws ≡ Ok last → IdsBounded last
words_kept [] settings last ids e = ids_are settings last (with_words settings []) refl e ids
words_kept (w ∷ ws) settings last ids e =
    let s = words_bind (setting_of w) (λ (setting : Setting). words.◌>>=◌ (with_setting settings setting) (λ (more : Settings). with_words more ws)) last e in
    let m = words_bind (with_setting settings s.0) (λ (more : Settings). with_words more ws) last s.2 in
    words_kept ws m.0 last (setting_kept settings m.0 s.0 ids (parts_kept (cut 61 w) s.0 s.1) m.1) m.2

or_bound : (o : Option ℕ) → ((id : ℕ) → o ≡ Some id → id < 2 ^ 32) → unwrap_or o 65534 < 2 ^ 32
or_bound None each = omega arith
or_bound (Some id) each = each id refl

options_kept : (o : Options) (field : List ℕ) → parse_options field ≡ Ok o → (o.anonuid < 2 ^ 32) × (o.anongid < 2 ^ 32)
options_kept o field e =
    let s = words_bind (with_words nothing (chunks 44 field)) (λ (settings : Settings). Ok (options_of settings)) o e in
    let ids = words_kept (chunks 44 field) nothing s.0 ((λ id is. absurd (not_both refl is)), (λ id is. absurd (not_both refl is))) s.1 in
    subst (λ (it : Options). (it.anonuid < 2 ^ 32) × (it.anongid < 2 ^ 32)) (same_ok (Ok (options_of s.0)) (options_of s.0) o refl s.2)
    (or_bound s.0.anonuid ids.0, or_bound s.0.anongid ids.1)

pub options_bound : (fields : List (List ℕ)) (o : Options) (rest : List (List ℕ)) → options_at fields ≡ Ok (o, rest) → (o.anonuid < 2 ^ 32)
    × (o.anongid < 2 ^ 32)
options_bound [] o rest e =
    let same : default_options ≡ o = ap (λ (p : Options × List (List ℕ)). p.0) (same_ok (options_at []) (default_options, []) (o, rest) refl e) in
    subst (λ (it : Options). (it.anonuid < 2 ^ 32) × (it.anongid < 2 ^ 32)) same (omega arith, omega arith)
options_bound (field ∷ fields) o rest e = from (parse_options field) refl e
  where
    from : (r : Result Options OptionsFault) → parse_options field ≡ r → after fields (options_or_cause r) ≡ Ok (o, rest) → (o.anonuid < 2 ^ 32)
        × (o.anongid < 2 ^ 32)
    from (Err x) is e = cc
    from (Ok it) is e =
        let same : it ≡ o = ap (λ (p : Options × List (List ℕ)). p.0) (same_ok (after fields (options_or_cause (Ok it))) (it, fields) (o, rest) refl e) in
        options_kept o field (is ∙ ap Ok same)
