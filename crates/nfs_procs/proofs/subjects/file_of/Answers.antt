use Rattle.std.proofs.Common.{◌≡◌, Some, None, refl, sym, subst}
use Rattle.nfs_procs.proofs.Judged.{subject_tree}
use Rattle.nfs_procs.specs.Denials.{IsUnnamed}
use Rattle.nfs_rules.specs.Subjects.{subject_at}
use Rattle.nfs_rules.specs.Tests.{first}
use Rattle.nfs_rules.specs.Verdicts.{handle_rules}
use Rattle.nfs_rules.specs.Views.{caller_of}
use Rattle.nfs_procs.proofs.subjects.file_of.Goals as goal

pub returns-in-Ok : goal.returns-in-Ok
returns-in-Ok c =
    let call = c.args.call.now in
    let named = subst (λ handle. subject_at c.args.tree.now call.table.now (caller_of call.caller) handle ≡ Some c.in-Ok.file) c.bytes.ensures (sym c.in-Ok.ensures.subject) in record {
      kept = subst (λ handle. first (handle_rules c.args.tree.now call.table.now (caller_of call.caller) handle) ≡ None) c.bytes.ensures c.in-Ok.ensures.rules;
      subject = named;
      tree = subject_tree c.args.tree.now call.table.now (caller_of call.caller) c.args.handle.now c.in-Ok.file named;
      law = c.law.ensures.law;
      file = c.law.ensures.file;
    }

pub returns-in-Err : goal.returns-in-Err
returns-in-Err c =
    let call = c.args.call.now in
    subst (λ denial. IsUnnamed c.args.tree.now call c.args.handle.now denial) (sym c.of_handle.ensures) (record {
      failed = subst (λ handle. first (handle_rules c.args.tree.now call.table.now (caller_of call.caller) handle) ≡ Some c.in-Err.rule) c.bytes.ensures c.in-Err.ensures.rules;
      none = subst (λ handle. subject_at c.args.tree.now call.table.now (caller_of call.caller) handle ≡ None) c.bytes.ensures (sym c.in-Err.ensures.subject);
      uid = refl;
      shown = refl;
    })
