-- What is written of results is their encoding.
use Rattle.std.proofs.Common.{◌≡◌, ℕ, ◌^◌, ◌<◌, Bool, List, ◌++◌, length, Option, refl, sym, subst, append_assoc, arith}
use Rattle.std.specs.Int.{w32, to_be_bytes}
use Rattle.nfs_xdr.specs.Encoding.{IsNumber, IsBoolean, opaque_text, fixed_text}
use Rattle.nfs_xdr.proofs.Items.{opaque_written}
use Rattle.nfs_xdr.proofs.Writing.{number_written, followed}
use Rattle.nfs_attrs.specs.declared.fattr.Fattr.{Fattr}
use Rattle.nfs_attrs.specs.Encoding.{IsPostOpAttr, post_op_attr_text}
use Rattle.nfs_args.specs.declared.read_data.ReadData.{ReadData}
use Rattle.nfs_args.specs.declared.mount_answer.MountAnswer.{MountAnswer}
use Rattle.nfs_args.specs.declared.mount_answer.MountAnswer.TheVariants as answer
use Rattle.nfs_args.specs.MountAnswers.{IsMountAnswerOf, mount_answered, mount_text}
use Rattle.nfs_args.specs.Results.{boolean_text, IsReadData, read_head_text, read_data_text}

-- attributes that were lent
pub attributes_written : (shown attributes : Option Fattr) → shown ≡ attributes → IsPostOpAttr shown (post_op_attr_text shown) → IsPostOpAttr attributes (post_op_attr_text attributes)
attributes_written shown attributes same written = subst (λ o. IsPostOpAttr o (post_op_attr_text o)) same written

-- what stands in front of bytes that were read, and then the bytes
pub read_head_written : (attributes : Option Fattr) (count : ℕ) (eof : Bool) → IsPostOpAttr attributes (post_op_attr_text attributes) → IsNumber w32 count (to_be_bytes w32 count) → IsBoolean eof (boolean_text eof)
    → (content : List ℕ) → length content ≡ count → IsReadData (record { attributes = attributes; eof = eof; content = content }) (read_head_text attributes count eof ++ fixed_text content)
read_head_written attributes count eof shown number ends content counted =
    let fits : length content < 2 ^ 32 = omega (arith, counted, number.fits) in
    subst (λ n. IsReadData (record { attributes = attributes; eof = eof; content = content }) (read_head_text attributes n eof ++ fixed_text content)) counted
    (record {
      front = post_op_attr_text attributes;
      first = shown;
      back = to_be_bytes w32 (length content) ++ boolean_text eof ++ opaque_text content;
      second = followed _ _ _ _ (number_written w32 (length content) fits) (followed _ _ _ _ ends (opaque_written 4294967295 content fits (omega arith)));
      text_is = append_assoc (post_op_attr_text attributes) (to_be_bytes w32 (length content) ++ boolean_text eof ++ to_be_bytes w32 (length content)) (fixed_text content);
    })

-- bytes that were lent
pub read_data_written : (a : ReadData) (attributes : Option Fattr) (content : List ℕ) → attributes ≡ a.attributes → content ≡ a.content
    → IsReadData (record { attributes = attributes; eof = a.eof; content = content }) (read_head_text attributes (length content) a.eof ++ fixed_text content) → IsReadData a (read_data_text a)
read_data_written a attributes content same_attributes same_content written =
    let same : record { attributes = attributes; eof = a.eof; content = content } ≡ a = λ i. record { attributes = same_attributes i; eof = a.eof; content = same_content i } in
    subst (λ (r : ReadData). IsReadData r (read_data_text r)) same written

-- ---- the results of MOUNT that have no bytes

abbrev pub IsMountWritten : MountAnswer → Type 0
IsMountWritten a = IsMountAnswerOf (mount_answered a) a (mount_text a)

pub null_written : (a : MountAnswer) → a ≡ answer.Null → IsMountWritten a
null_written a is = subst IsMountWritten (sym is) (record { value_is = refl; text_is = refl })

pub unmount_written : (a : MountAnswer) → a ≡ answer.Unmount → IsMountWritten a
unmount_written a is = subst IsMountWritten (sym is) (record { value_is = refl; text_is = refl })

pub unmount_all_written : (a : MountAnswer) → a ≡ answer.UnmountAll → IsMountWritten a
unmount_all_written a is = subst IsMountWritten (sym is) (record { value_is = refl; text_is = refl })
