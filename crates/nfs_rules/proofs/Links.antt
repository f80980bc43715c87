-- Where no rule is failed, a file takes a hard link.
use Rattle.std.proofs.Common.{◌≡◌, ℕ, ◌-◌, ◌<◌, false, List, Some, None, refl, sym, ap, subst, ◌∙◌}
use Rattle.std.proofs.lemmas.Bool.{leb-false}
use Rattle.nfs_inodes.specs.Tree.{Tree, File, is_directory, names_of}
use Rattle.nfs_inodes.specs.Law.{Law, Lives}
use Rattle.nfs_inodes.specs.Conditions.{MayLink}
use Rattle.nfs_inodes.specs.Reading.{attributes_at}
use Rattle.nfs_inodes.proofs.Lists.{if_false}
use Rattle.nfs_rules.specs.Subjects.{Subject}
use Rattle.nfs_rules.specs.Tests.{first, link_directory, not_directory, name_long, name_form, found, exists, links, cookies}
use Rattle.nfs_rules.specs.Table.{link_rules}
use Rattle.nfs_rules.proofs.Firsts.{passed_at}
use Rattle.nfs_rules.proofs.SeenFiles.{seen_lives, seen_directory, seen_place, seen_links}
use Rattle.nfs_rules.proofs.NewFiles.{none_from_is_some, may_enter}

-- the same subject over the tree itself
abbrev pub over : Tree → Subject → Subject
over t s = record s { tree = t }

module _ (t : Tree) (law : Law t) (one two : Subject) (seen_one : attributes_at t one.file.fileid ≡ Some one.file) (seen_two : attributes_at t two.file.fileid ≡ Some two.file) (same : one.file.fsid ≡ two.file.fsid) where
  -- two files of one volume
  pub same_place : (f g : File) → Lives t one.file.fileid f → Lives t two.file.fileid g → f.volume ≡ g.volume
  same_place f g at_f at_g = sym (seen_place t one.file seen_one f at_f) ∙ ap (λ n. n - 1) same ∙ seen_place t two.file seen_two g at_g

  may_link_over : (name : List ℕ) → first (link_rules (over t one) (over t two) name) ≡ None → MayLink t one.file.fileid two.file.fileid name
  may_link_over name none =
      let dir : Subject = over t two in
      let passed = passed_at (link_rules (over t one) dir name) none in
      let enter = may_enter dir law seen_two name (passed 2 (not_directory dir) refl) (passed 3 (name_long name) refl) (passed 4 (name_form name) refl) (none_from_is_some (found dir name) (passed 6 (exists dir name) refl)) (passed 9 (cookies dir) refl) in
      let lives = seen_lives t one.file seen_one in
      let other : is_directory lives.0.kind ≡ false = sym (seen_directory t one.file seen_one lives.0 lives.1) ∙ passed 1 (link_directory (over t one)) refl in
      let names : one.file.nlink ≡ names_of one.file.fileid t.files = seen_links t one.file seen_one lives.0 lives.1 ∙ if_false _ _ other in
      record {
        enter = enter;
        file = lives.0;
        at_file = lives.1;
        not_directory = other;
        volume = same_place lives.0 enter.dir lives.1 enter.at_dir.0;
        links = subst (λ n. n < t.limits.links) names (leb-false t.limits.links one.file.nlink (passed 8 (links t.limits one.file) refl));
      }

-- LINK
pub may_link : (t : Tree) → Law t → (one two : Subject) → one.tree ≡ t → two.tree ≡ t → attributes_at one.tree one.file.fileid ≡ Some one.file → attributes_at two.tree two.file.fileid ≡ Some two.file → one.file.fsid ≡ two.file.fsid
    → (name : List ℕ) → first (link_rules one two name) ≡ None → MayLink t one.file.fileid two.file.fileid name
may_link t law one two tree_one tree_two seen_one seen_two same name none =
    may_link_over t law one two (subst (λ u. attributes_at u one.file.fileid ≡ Some one.file) tree_one seen_one) (subst (λ u. attributes_at u two.file.fileid ≡ Some two.file) tree_two seen_two) same name
    (subst (λ u. first (link_rules (over u one) (over t two) name) ≡ None) tree_one (subst (λ u. first (link_rules one (over u two) name) ≡ None) tree_two none))
