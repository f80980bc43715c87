-- Records that are read where they stand in a chunk.
use Rattle.std.proofs.Common.{◌≡◌, ℕ, ◌+◌, ◌^◌, ◌<◌, true, List, [], ◌++◌, length, take, refl, sym, ap, subst, ◌∙◌, append-nil, arith}
use Rattle.nfs_rpc.specs.declared.framer.Stage.TheVariants.{Header}
use Rattle.nfs_rpc.specs.Lent.{IsAtFront, IsBefore, IsLent}
use Rattle.nfs_rpc.specs.Progress.{Progress}
use Rattle.nfs_rpc.specs.Records.{fragment, unended, joined, IsRecord, Follows}

abbrev before : ℕ → List ℕ → Progress
before limit bytes = record { limit = limit; stage = Header bytes 0; content = [] }

-- after fragments without content a record of one fragment more
record_after : (content text taken : List ℕ) → Follows text [] [] [] → length content < 2 ^ 31 → taken ≡ fragment true content → IsRecord content (text ++ taken)
record_after content text taken f below front = record {
  parts = f.parts;
  are_parts = f.are_parts;
  final = content;
  final_is = below;
  content_is = ap (λ t. t ++ content) (f.content_is ∙ append-nil (joined f.parts));
  text_is = ap (λ t. t ++ taken) (f.text_is ∙ append-nil (unended f.parts)) ∙ ap (λ t. unended f.parts ++ t) front;
}

lent_before : (limit : ℕ) (bytes content chunk : List ℕ) → IsAtFront limit content chunk → IsLent (before limit bytes) content chunk
lent_before limit bytes content chunk at = record {
  whole = at.whole;
  moves = λ text u. (at.within, record_after content text (take (4 + length content) chunk) u.2 at.below at.front);
  begins = (omega arith, omega arith, record { parts = []; are_parts = tt; content_is = refl; text_is = refl });
}

pub lent : (p : Progress) (content chunk : List ℕ) → IsBefore p → IsAtFront p.limit content chunk → IsLent p content chunk
lent p content chunk is at =
    subst (λ stage. IsLent (record { limit = p.limit; stage = stage; content = p.content }) content chunk) (sym is.stage)
    (subst (λ held. IsLent (record { limit = p.limit; stage = Header is.bytes 0; content = held }) content chunk) (sym is.content) (lent_before p.limit is.bytes content chunk at))
