-- What the policy refuses.
use Rattle.std.proofs.Common.{inl, inr, ◌≡◌, ◌≢◌, ◌⊎◌, ℕ, true, false, [], length, Some, None, get_or, ◌∷◌, refl, sym, ap, subst, ◌∙◌, arith}
use Rattle.std.specs.Prelude.{Contains}
use Rattle.nfs_attrs.specs.declared.moment.Moment.{Moment}
use Rattle.nfs_exports.specs.Ids.{Ids}
use Rattle.nfs_inodes.proofs.Lists.{same_some, not_both, by_number, in_head, not_in_empty}
use Rattle.nfs_inodes.proofs.Maps.{at_push_other, at_without_other}
use Rattle.nfs_inodes.specs.Changes.{with_new_file, without_file}
use Rattle.nfs_inodes.specs.Example.{file_1, file_2, file_3, file_7, file_8, start, tree_e}
use Rattle.nfs_inodes.specs.Tree.{Tree, File, Directory, Entry, at, on_some, entries_in, parent_in}
use Rattle.nfs_policy.proofs.Leading.{policy_itself}
use Rattle.nfs_policy.specs.Policy.{EntriesDiffer}
use Rattle.nfs_policy.specs.Refusals.{later, PassesOver, Refuses}

abbrev ids : ℕ → Ids
ids uid = record { uid = uid; gid = uid; gids = [] }

earlier : start ≡ later → ⊥
earlier e = let h : ◌≡◌ {A = ℕ} 0 5 = ap (λ (m : Moment). m.seconds) e in omega (arith, h)

-- where files differ at one number alone, which one of the trees has not, no entries differ
unnamed : (u : Tree) (n : ℕ) → (at n tree_e.files ≡ None) ⊎ (at n u.files ≡ None) → ((m : ℕ) → m ≢ n → at m u.files ≡ at m tree_e.files) → EntriesDiffer tree_e u → ⊥
unnamed u n none same d = by_number d.number n
    (λ s. missing none (ap (λ k. at k tree_e.files) (sym s) ∙ d.at_before) (ap (λ k. at k u.files) (sym s) ∙ d.at_after))
    (λ o. d.differ (ap (λ (f : File). entries_in f.kind) (same_some (sym d.at_before ∙ sym (same d.number o) ∙ d.at_after))))
  where
    missing : (at n tree_e.files ≡ None) ⊎ (at n u.files ≡ None) → at n tree_e.files ≡ Some d.before → at n u.files ≡ Some d.after → ⊥
    missing (inl e) before after = not_both e before
    missing (inr e) before after = not_both e after

false_is : false ≡ true → ⊥
false_is e = cc

-- the first entry of directory 2
abbrev first : Entry
first = record { cookie = 3; name = 0x78 ∷ []; number = 3 }

pub refuses : Refuses
refuses = record {
  bytes = λ p. false_is ((p.rightful 3 file_3 _ (ids 9) refl refl refl).bytes (λ e. let h : ◌≡◌ {A = ℕ} 104 121 = ap (λ l. get_or l 0 0) e in omega (arith, h)));
  mode = λ p. false_is ((p.rightful 3 file_3 (record file_3 { mode = 511 }) (ids 9) refl refl refl).mode (λ e. let h : ◌≡◌ {A = ℕ} 457 511 = e in omega (arith, h)));
  loss = λ p. false_is ((p.rightful 3 (record file_3 { mode = 2505 }) file_3 (ids 9) refl refl refl).mode (λ e. let h : ◌≡◌ {A = ℕ} 2505 457 = e in omega (arith, h)));
  gain = λ p. false_is ((p.rightful 2 file_2 (record file_2 { mode = 2559 }) (ids 9) refl refl refl).own_mode refl);
  owner = λ p. false_is ((p.rightful 3 file_3 (record file_3 { uid = 9 }) (ids 1) refl refl refl).uid (λ e. let h : ◌≡◌ {A = ℕ} 1 9 = e in omega (arith, h)));
  group = λ p. false_is ((p.rightful 3 file_3 (record file_3 { gid = 7 }) (ids 1) refl refl refl).group (λ e. let h : ◌≡◌ {A = ℕ} 1 7 = e in omega (arith, h)));
  volume = λ p. false_is (p.writable 8 file_8 (inl refl) (λ e. other e));
  entries = λ p. false_is ((p.rightful 1 file_1 (record file_1 { kind = Directory 1 7 [] }) (ids 9) refl refl refl).entries (λ e. let h : ◌≡◌ {A = ℕ} 4 0 = ap length e in omega (arith, h)));
  deletion = λ p. false_is (p.deletion 2 (record file_2 { mode = 1023 }) first file_3 (ids 9) refl (in_head first (record { cookie = 4; name = 0x6e ∷ []; number = 4 } ∷ [])) (λ c. not_in_empty [] first refl c) refl refl);
  time = λ p. false_is ((p.rightful 3 file_3 (record file_3 { atime = later }) (ids 9) refl refl refl).atime earlier);
  own_time = λ p. false_is ((p.rightful 2 file_2 (record file_2 { mtime = later }) (ids 9) refl refl refl).own_mtime (λ e. earlier (sym e)) earlier);
  maker = λ p. let h : ◌≡◌ {A = ℕ} 1 9 = (p.new 9 file_3 (ids 9) refl refl refl).uid (λ e. let z : ◌≡◌ {A = ℕ} 9 0 = e in omega (arith, z)) in omega (arith, h);
  comes = λ p. let g = record file_3 { uid = 9; gid = 9 } in unnamed (with_new_file tree_e g) 9 (inl refl) (λ m o. at_push_other 9 m g tree_e.files o) (p.comes 9 g refl refl);
  goes = λ p. unnamed (without_file tree_e 7) 7 (inr refl) (λ m o. at_without_other 7 m tree_e.files o) (p.goes 7 file_7 refl refl);
}
  where
    other : Some file_8 ≡ Some (record file_8 { mode = 0 }) → ⊥
    other e = let m : ◌≡◌ {A = ℕ} 511 0 = ap (λ (f : File). f.mode) (same_some e) in omega (arith, m)

pub passes_over : PassesOver
passes_over exports caller now t next key volumes limits = let p = policy_itself exports caller now t in record {
  writable = p.writable;
  stays = p.stays;
  rightful = p.rightful;
  new = p.new;
  deletion = λ d dir e f ids at_d there gone at_f is. absurd (gone (subst (λ o. Contains (on_some o [] (λ (f : File). entries_in f.kind)) e) (sym at_d) there));
  comes = λ n g e h. absurd (not_both e h);
  goes = λ n f e h. absurd (not_both h e);
  parent = λ n f g e h d. absurd (d (ap (λ (k : File). parent_in k.kind) (same_some (sym e ∙ h))));
}
