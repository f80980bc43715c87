-- Lines that are taken one by one are the lines of a text.
use Rattle.std.proofs.Common.{◌≡◌, ℕ, ◌+◌, ◌-◌, ◌^◌, ◌<◌, List, ◌∷◌, ◌++◌, length, Bool, true, false, Option, None, Some, Ok, Err, inr, refl, ap, ◌∙◌, arith}
use Rattle.std.proofs.lemmas.List.{length-append}
use Rattle.std.specs.Prelude.{if◌then◌else◌, nat_eq}
use Rattle.nfs_text.specs.Lines.{lines}
use Rattle.nfs_load.specs.declared.cause.Cause.TheVariants.{NoVolume}
use Rattle.nfs_load.specs.declared.load_error.LoadError.{LoadError}
use Rattle.nfs_load.specs.declared.loaded.Loaded.{Loaded}
use Rattle.nfs_load.specs.Descriptions.{Describes, Through, finished}
use Rattle.nfs_load.specs.Loadings.{Becomes, SoFar, at_end, number_after}
use Rattle.nfs_load.proofs.Descriptions.{lines_few, reported}

small : (count : ℕ) → count < 2 ^ 64 - 1 → number_after count ≡ count + 1
small count few = omega (arith, few)

-- no line is so far after that its number couldn't be reported
pub number_is : (text : List ℕ) (before left : List (List ℕ)) (count : ℕ)
    → lines text ≡ before ++ left → count ≡ length before → length text < 2 ^ 64 - 1 → number_after count ≡ length before + 1
number_is text before left count all counted few =
    let sum : length (lines text) ≡ length (before ++ left) = ap length all in
    small count (omega (arith, sum, length-append before left, lines_few text, counted, few)) ∙ ap (λ n. n + 1) counted

-- a line that is refused
pub stops : (text : List ℕ) (old : SoFar) (before left rest : List (List ℕ)) (line : List ℕ) (error : LoadError) (new : Option Loaded)
    → Through None before old.described → lines text ≡ before ++ left → left ≡ line ∷ rest → old.count ≡ length before → length text < 2 ^ 64 - 1
    → Becomes old line (Err error) new → Describes text (Err error)
stops text old before left rest line error new through all more counted few (refusal, reported_so, refused, gone) =
    reported text (number_after old.count) refusal error reported_so (record {
      before = before;
      line = line;
      after = rest;
      all_are = all ∙ ap (λ it. before ++ it) more;
      number_is = number_is text before left old.count all counted few;
      old = old.described;
      in_order = through;
      new = refused.new;
      refused = refused.refused;
    })

-- all lines are in order
pub ends : (text : List ℕ) (count : ℕ) (described : Option Loaded)
    → Through None (lines text) described → number_after count ≡ length (lines text) + 1 → Describes text (at_end count (finished described))
ends text count None through number = inr (record { number_is = number; old = None; in_order = through; missing = refl })
ends text count (Some loaded) through number = more (nat_eq (length loaded.tree.volumes) 0) refl
  where
    more : (none : Bool) → nat_eq (length loaded.tree.volumes) 0 ≡ none → Describes text (at_end count (if none then Err NoVolume else Ok loaded))
    more true e = inr (record { number_is = number; old = Some loaded; in_order = through; missing = ap (λ b. if b then Err NoVolume else Ok loaded) e })
    more false e = (through, ap (λ b. if b then Err NoVolume else Ok loaded) e)
