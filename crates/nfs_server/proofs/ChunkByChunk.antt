-- A chunk is taken record by record.
use Rattle.std.proofs.Common.{◌≡◌, ℕ, ◌+◌, ◌-◌, ◌≤◌, ◌<◌, List, [], ◌∷◌, ◌++◌, take, drop, length, Option, Some, None, Ok, Err, refl, sym, ap, subst, ◌∙◌, arith}
use Rattle.std.proofs.lemmas.List.{length-append, take-append-drop, take_rest}
use Rattle.nfs_rpc.specs.Progress.{Progress}
use Rattle.nfs_server.specs.Events.{Done}
use Rattle.nfs_server.specs.Feeding.{device, replies_of}
use Rattle.nfs_server.specs.Fits.{Held}
use Rattle.nfs_server.specs.Taking.{FeedsWith, FeedsOne, FeedsSome, IsOneAtMost, IsRoomLeft, LeavesRoom, AreFull, Stops, room_after}
use Rattle.nfs_server.specs.declared.session_fault.SessionFault.{SessionFault}
use Rattle.nfs_server.specs.declared.taking.Origin.{Origin}
use Rattle.nfs_server.specs.declared.taking.Step.{Step}
use Rattle.nfs_server.specs.declared.taking.Stop.{Stop}
use Rattle.nfs_server.specs.declared.taking.Stop.TheVariants.{Done as Finished}
use Rattle.nfs_server.proofs.Feeding.{replies_append, feeds_on}
use Rattle.nfs_xdr.proofs.Knowing.{taken_on}

-- ---- room

pub room_none : (room : Option ℕ) → IsRoomLeft room room []
room_none None = record { left_is = refl; leaves = tt }
room_none (Some room) = record { left_is = ap Some (omega arith); leaves = tt }

after_both : (room : Option ℕ) (n more both : ℕ) → both ≡ n + more → room_after (room_after room n) more ≡ room_after room both
after_both None n more both e = refl
after_both (Some room) n more both e = ap Some (omega (arith, e))

some_left : (room n : ℕ) → (Some (room - n) ≡ Some 0 → ⊥) → n < room
some_left room n unfilled =
    let not_none : room - n ≡ 0 → ⊥ = λ e. unfilled (ap Some e) in
    omega (arith, not_none)

leaves_on : (room left : Option ℕ) (done later : List Done) → IsOneAtMost later → (left ≡ Some 0 → ⊥) → IsRoomLeft room left done → LeavesRoom room (later ++ done)
leaves_on room left done [] one unfilled is = is.leaves
leaves_on None left done (d ∷ []) one unfilled is = tt
leaves_on (Some room) left done (d ∷ []) one unfilled is = some_left room (length (replies_of done)) (λ e. unfilled (is.left_is ∙ e))
leaves_on room left done (d ∷ e ∷ later) one unfilled is = absurd one

room_on : (room left : Option ℕ) (replied : ℕ) (done later : List Done) → (left ≡ Some 0 → ⊥) → IsRoomLeft room left done → IsOneAtMost later → replied ≡ length (replies_of later) → IsRoomLeft room (room_after left replied) (later ++ done)
room_on room left replied done later unfilled is one e =
    let both : length (replies_of (later ++ done)) ≡ length (replies_of done) + replied = ap length (replies_append later done) ∙ length-append (replies_of done) (replies_of later) ∙ ap (λ k. length (replies_of done) + k) (sym e) in
    record {
      left_is = ap (λ o. room_after o replied) is.left_is ∙ after_both room (length (replies_of done)) replied (length (replies_of (later ++ done))) both;
      leaves = leaves_on room left done later one unfilled is;
    }

none_some : {X : Type 0} {x : X} → None ≡ Some x → ⊥
none_some e = cc

none_over : (room n : ℕ) → Some (room - n) ≡ Some 0 → room ≤ n
none_over room n e =
    let none : room - n ≡ 0 = ap (λ o. elim o [ None ↦ 0 | Some k ↦ k ]) e in
    omega (arith, none)

full : (room left : Option ℕ) (done : List Done) → left ≡ Some 0 → IsRoomLeft room left done → AreFull room (replies_of done)
full None left done e is = absurd (none_some (sym is.left_is ∙ e))
full (Some room) left done e is = none_over room (length (replies_of done)) (sym is.left_is ∙ e)

-- ---- the rest of a chunk

pub rest_of : (chunk : List ℕ) (i : ℕ) → take i chunk ++ take (length chunk - i) (drop i chunk) ≡ chunk
rest_of chunk i = ap (λ t. take i chunk ++ t) (take_rest chunk i) ∙ take-append-drop i chunk

module _ (origin : Origin) (chunk : List ℕ) (room left : Option ℕ) (i n : ℕ) (old mid : Held) (from between : Progress) (a b v w : Option (List ℕ))
    (before : FeedsWith (IsRoomLeft room left) origin (take i chunk) (Ok n) old mid from between (device a b) (device v w)) where
  module _ (new : Held) (to : Progress) (c x : Option (List ℕ)) (limit : to.limit ≡ between.limit) (unfilled : left ≡ Some 0 → ⊥) where
    pub steps_on : (step : Step) (next : Option ℕ) → next ≡ room_after left step.replied → FeedsOne origin (take (length chunk - i) (drop i chunk)) (Ok step) mid new between to (device b c) (device w x)
        → FeedsWith (IsRoomLeft room next) origin (take (i + step.used) chunk) (Ok (n + step.records)) old new from to (device a c) (device v x)
    steps_on step next e one = subst (λ t. FeedsWith (IsRoomLeft room next) origin t (Ok (n + step.records)) old new from to (device a c) (device v x)) (taken_on chunk i step.used)
        (feeds_on (IsRoomLeft room left) (λ done. IsOneAtMost done × (step.replied ≡ length (replies_of done))) (IsRoomLeft room next) origin (take i chunk) (take step.used (take (length chunk - i) (drop i chunk))) n (Ok step.records) old mid new from between to a b c v w x (sym limit)
        (λ done later is more. subst (λ o. IsRoomLeft room o (later ++ done)) (sym e) (room_on room left step.replied done later unfilled is more.0 more.1)) before one)

    pub stops_on : (fault : SessionFault) → FeedsOne origin (take (length chunk - i) (drop i chunk)) (Err fault) mid new between to (device b c) (device w x) → FeedsSome origin chunk room (Err fault) old new from to (device a c) (device v x)
    stops_on fault one = subst (λ t. FeedsWith (Stops room chunk (Err fault)) origin t (Err fault) old new from to (device a c) (device v x)) (rest_of chunk i)
        (feeds_on (IsRoomLeft room left) (λ done. IsOneAtMost done × Unit {0}) (Stops room chunk (Err fault)) origin (take i chunk) (take (length chunk - i) (drop i chunk)) n (Err fault) old mid new from between to a b c v w x (sym limit) (λ done later is more. leaves_on room left done later more.0 unfilled is) before one)

  -- the chunk ends, or the room is full
  pub ends_here : (stop : Stop) → (stop ≡ Finished → i < length chunk → left ≡ Some 0) → FeedsSome origin chunk room (Ok (record { used = i; records = n; stop = stop })) old mid from between (device a b) (device v w)
  ends_here stop stopped history fits text u =
      let brings = before history fits text u in
      (brings.0, (λ finished more. full room left brings.0.done (stopped finished more) brings.1, brings.1.leaves))
