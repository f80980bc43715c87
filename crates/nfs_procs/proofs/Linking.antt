-- A file has a hard link, or another one.
use Rattle.std.proofs.Common.{◌≡◌, ℕ, List, Option, Some, refl, sym, ap, subst, ◌∙◌}
use Rattle.std.specs.Int.{w32, to_be_bytes}
use Rattle.std.specs.Prelude.{Ok}
use Rattle.nfs_args.specs.Results.{IsLinked, IsRenamed, linked_text, renamed_text}
use Rattle.nfs_args.specs.declared.answer.NfsAnswer.TheVariants as answer
use Rattle.nfs_args.specs.declared.link.Link.{Link}
use Rattle.nfs_args.specs.declared.rename.Rename.{Rename}
use Rattle.nfs_attrs.specs.declared.fattr.Fattr.{Fattr}
use Rattle.nfs_attrs.specs.declared.wcc.Wcc.{Wcc}
use Rattle.nfs_inodes.specs.Changes.{after_link, after_rename}
use Rattle.nfs_inodes.specs.Conditions.{NameApart}
use Rattle.nfs_handles.proofs.Tags.{some_next_tag}
use Rattle.nfs_inodes.specs.Reading.{attributes_at, numbered_files}
use Rattle.nfs_inodes.specs.Tree.{Tree}
use Rattle.nfs_procs.proofs.Growth.{they_differ}
use Rattle.nfs_procs.proofs.Encoded.{granted_encoded}
use Rattle.nfs_procs.specs.Changers.{changed, link, rename}
use Rattle.nfs_procs.specs.Doing.{change}
use Rattle.nfs_procs.specs.Performing.{AppendsAnswer, IsGranted, HasEffect, HasNoMemory}
use Rattle.nfs_procs.specs.declared.plan.FileBefore.{FileBefore}
use Rattle.nfs_procs.specs.declared.plan.RenamePlan.{RenamePlan}
use Rattle.nfs_procs.specs.Plans.{PlansLink, PlansRename}
use Rattle.nfs_procs.specs.Scenes.{Scene}
use Rattle.nfs_rules.specs.Subjects.{Subject}
use Rattle.nfs_xdr.proofs.Writing.{appends_then}
use Rattle.nfs_xdr.specs.Written.{Written, Appends}

pub links : (c : Scene) (a : Link) (plan : FileBefore × FileBefore) (s u : Subject) (new : Tree) (bytes : List ℕ) (attributes : Option Fattr) (dir : Wcc) (x y z : Written)
    → IsGranted c s u → PlansLink c.tree a.place.name plan s u → bytes ≡ a.place.name → new ≡ after_link c.tree plan.0.attributes.fileid plan.1.attributes.fileid bytes c.now
    → attributes ≡ attributes_at new plan.0.attributes.fileid → dir ≡ change (Some plan.1.attributes) (attributes_at new plan.1.attributes.fileid)
    → Appends (to_be_bytes w32 0) x y → Appends (linked_text (record { attributes = attributes; dir = dir })) y z → IsLinked (record { attributes = attributes; dir = dir }) (linked_text (record { attributes = attributes; dir = dir }))
    → HasEffect c (link a) new x z
links c a plan s u new bytes attributes dir x y z granted plans same is shown wcc status written encoded = record {
  one = s;
  two = u;
  granted = granted;
  tag = (some_next_tag (numbered_files c.tree)).0;
  tag_is = (some_next_tag (numbered_files c.tree)).1;
  new_is = is ∙ ap (λ b. after_link c.tree plan.0.attributes.fileid plan.1.attributes.fileid b c.now) same
      ∙ ap (λ (f : Fattr). after_link c.tree f.fileid plan.1.attributes.fileid a.place.name c.now) plans.file_is
      ∙ ap (λ (f : Fattr). after_link c.tree s.file.fileid f.fileid a.place.name c.now) plans.dir_is
      ∙ ap (λ t. after_link t s.file.fileid u.file.fileid a.place.name c.now) (sym plans.tree);
  written = subst (λ o. AppendsAnswer (answer.Link (Ok (record { attributes = o; dir = changed new u }))) x z) (shown ∙ ap (λ (f : Fattr). attributes_at new f.fileid) plans.file_is)
      (subst (λ w. AppendsAnswer (answer.Link (Ok (record { attributes = attributes; dir = w }))) x z) (wcc ∙ ap (λ (f : Fattr). change (Some f) (attributes_at new f.fileid)) plans.dir_is)
      (record { text = appends_then _ _ x y z status written; encoded = granted_encoded answer.Link IsLinked IsLinked linked_text (record { attributes = attributes; dir = dir }) encoded }));
}

pub renames : (c : Scene) (a : Rename) (plan : RenamePlan) (s u : Subject) (new : Tree) (bytes others : List ℕ) (from to : Wcc) (x y z : Written)
    → IsGranted c s u → PlansRename c.tree a plan s u → bytes ≡ a.from.name → others ≡ a.to.name → new ≡ after_rename c.tree plan.route.from.0 bytes plan.route.to.0 others c.now
    → from ≡ change (Some plan.from) (attributes_at new plan.route.from.0) → to ≡ change (Some plan.to) (attributes_at new plan.route.to.0)
    → Appends (to_be_bytes w32 0) x y → Appends (renamed_text (record { from = from; to = to })) y z → IsRenamed (record { from = from; to = to }) (renamed_text (record { from = from; to = to }))
    → HasEffect c (rename a) new x z
renames c a plan s u new bytes others from to x y z granted plans same same_too is wcc wcc_too status written encoded =
    let routes = plans.routes in
    record {
      one = s;
      two = u;
      granted = granted;
      tag = (some_next_tag (numbered_files c.tree)).0;
      tag_is = (some_next_tag (numbered_files c.tree)).1;
      new_is = is ∙ ap (λ b. after_rename c.tree plan.route.from.0 b plan.route.to.0 others c.now) same ∙ ap (λ b. after_rename c.tree plan.route.from.0 a.from.name plan.route.to.0 b c.now) same_too
          ∙ ap (λ d. after_rename c.tree d a.from.name plan.route.to.0 a.to.name c.now) routes.from_number
          ∙ ap (λ d. after_rename c.tree s.file.fileid a.from.name d a.to.name c.now) routes.to_number
          ∙ ap (λ t. after_rename t s.file.fileid a.from.name u.file.fileid a.to.name c.now) (sym plans.tree);
      written = subst (λ w. AppendsAnswer (answer.Rename (Ok (record { from = w; to = changed new u }))) x z)
          (wcc ∙ ap (λ (f : Fattr). change (Some f) (attributes_at new plan.route.from.0)) routes.from_is ∙ ap (λ d. change (Some s.file) (attributes_at new d)) routes.from_number)
          (subst (λ w. AppendsAnswer (answer.Rename (Ok (record { from = from; to = w }))) x z)
          (wcc_too ∙ ap (λ (f : Fattr). change (Some f) (attributes_at new plan.route.to.0)) routes.to_is ∙ ap (λ d. change (Some u.file) (attributes_at new d)) routes.to_number)
          (record { text = appends_then _ _ x y z status written; encoded = granted_encoded answer.Rename IsRenamed IsRenamed renamed_text (record { from = from; to = to }) encoded }));
    }

-- where there is no memory for another name
pub unrenamed : (c : Scene) (a : Rename) (plan : RenamePlan) (s u : Subject) (new : Tree) (bytes others : List ℕ) (x : Written)
    → IsGranted c s u → PlansRename c.tree a plan s u → bytes ≡ a.from.name → others ≡ a.to.name → new ≡ c.tree → NameApart c.tree plan.route.from.0 bytes plan.route.to.0 others
    → HasNoMemory c (rename a) new x x
unrenamed c a plan s u new bytes others x granted plans same same_too is apart = record {
  one = s;
  two = u;
  granted = granted;
  takes = they_differ s.tree s.file.fileid u.file.fileid a.from.name a.to.name
      (subst (λ b. NameApart s.tree s.file.fileid b u.file.fileid a.to.name) same
      (subst (λ b. NameApart s.tree s.file.fileid bytes u.file.fileid b) same_too
      (subst (λ d. NameApart s.tree d bytes u.file.fileid others) plans.routes.from_number
      (subst (λ d. NameApart s.tree plan.route.from.0 bytes d others) plans.routes.to_number
      (subst (λ t. NameApart t plan.route.from.0 bytes plan.route.to.0 others) (sym plans.tree) apart)))));
  new_is = is;
  written = refl;
}
