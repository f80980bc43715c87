-- How a tree is led to another by changes of files, each of which the policy allows.
use Rattle.std.proofs.Common.{inl, inr, ◌≡◌, ◌≢◌, ◌⊎◌, ℕ, Bool, true, false, List, [], Option, Some, None, option_map, refl, sym, ap, subst, ◌∙◌, arith}
use Rattle.std.specs.Prelude.{Contains, nat_eq, not, ◌||◌}
use Rattle.nfs_attrs.specs.declared.moment.Moment.{Moment}
use Rattle.nfs_exports.specs.Ids.{Ids, squash}
use Rattle.nfs_exports.specs.declared.options.Options.{Options}
use Rattle.nfs_exports.specs.declared.export_table.Export.{Export}
use Rattle.nfs_inodes.proofs.Lists.{by_test, by_number, same_some, not_both, true_and_false}
use Rattle.nfs_inodes.proofs.Maps.{at_with_same, at_with_other, at_without_same, at_without_other, at_push_same, at_push_other}
use Rattle.nfs_inodes.specs.Changes.{with_file, with_new_file, without_file}
use Rattle.nfs_inodes.specs.Law.{Lives, AreRising}
use Rattle.nfs_inodes.specs.Reading.{entries_at}
use Rattle.nfs_inodes.specs.Tree.{Tree, File, Entry, at, on_some, entries_in, parent_in}
use Rattle.nfs_rules.specs.Subjects.{Caller}
use Rattle.nfs_policy.specs.Policy.{OnlyWhere, loses_set_ids, Stays, Rightful, IsOwn, EntriesDiffer, Policy, options_at, is_writable, ids_at, in_group, is_owner, is_deleter}
use Rattle.nfs_policy.proofs.Deletions.{Keeps, MayGo}
use Rattle.nfs_policy.proofs.Modes.{loses_at_most, loses_on}

-- ---- one change after another

chain : {X : Type 0} (so : X → Bool) (Where : X → Type 0) (x y z : X) → (Where y → x ≢ y → so y ≡ true) → (Where z → y ≢ z → so z ≡ true) → Where z → x ≢ z → so z ≡ true
chain so Where x y z p q w d = by_test (so z) (λ t. t) (λ f. q w (λ g. true_and_false (subst (λ k. so k ≡ true) g (p (subst Where (sym g) w) (λ e. d (e ∙ g)))) f))

only : {X : Type 0} (so : Bool) (x y z : X) → OnlyWhere so x y → OnlyWhere so y z → OnlyWhere so x z
only so x y z p q d = chain (λ k. so) (λ k. Unit {0}) x y z (λ u. p) (λ u. q) tt d

pub stays_itself : (f : File) → Stays f f
stays_itself f = record { volume = refl; tag = refl; verifier = refl; path = refl; type = refl }

pub stays_on : (f g h : File) → Stays f g → Stays g h → Stays f h
stays_on f g h a b = record { volume = b.volume ∙ a.volume; tag = b.tag ∙ a.tag; verifier = b.verifier ∙ a.verifier; path = b.path ∙ a.path; type = b.type ∙ a.type }

module _ (ids : Ids) (now : Moment) (r : File) where
  pub rightful_itself : (f : File) → Rightful ids now r f f
  rightful_itself f = record {
    bytes = λ d. absurd (d refl);
    entries = λ d. absurd (d refl);
    mode = λ d. absurd (d refl);
    own_mode = λ other. absurd (true_and_false (loses_at_most f.mode f.mode refl (omega arith) (omega arith)) other);
    gid = λ d. absurd (d refl);
    uid = λ d. absurd (d refl);
    group = λ d. absurd (d refl);
    atime = λ d. absurd (d refl);
    mtime = λ d. absurd (d refl);
    own_atime = λ w d. absurd (d refl);
    own_mtime = λ w d. absurd (d refl);
  }

  pub rightful_on : (f g h : File) → Rightful ids now r f g → Rightful ids now r g h → Rightful ids now r f h
  rightful_on f g h a b = record {
    bytes = only _ _ _ _ a.bytes b.bytes;
    entries = only _ _ _ _ a.entries b.entries;
    mode = only _ f.mode g.mode h.mode a.mode b.mode;
    own_mode = λ other. by_test (loses_set_ids f.mode g.mode)
        (λ one. by_test (loses_set_ids g.mode h.mode) (λ two. absurd (true_and_false (loses_on f.mode g.mode h.mode one two) other)) b.own_mode)
        a.own_mode;
    gid = only _ f.gid g.gid h.gid a.gid b.gid;
    uid = only _ f.uid g.uid h.uid a.uid b.uid;
    group = chain (λ k. nat_eq ids.uid 0 || in_group ids k) (λ k. Unit {0}) f.gid g.gid h.gid (λ u. a.group) (λ u. b.group) tt;
    atime = only _ f.atime g.atime h.atime a.atime b.atime;
    mtime = only _ f.mtime g.mtime h.mtime a.mtime b.mtime;
    own_atime = chain (λ k. is_owner ids r) (λ k. k ≢ now) f.atime g.atime h.atime a.own_atime b.own_atime;
    own_mtime = chain (λ k. is_owner ids r) (λ k. k ≢ now) f.mtime g.mtime h.mtime a.own_mtime b.own_mtime;
  }

-- ---- trees

-- where files come, go or get another parent, this is so; and all happens in one volume
module _ (ids : Ids) (now : Moment) (index : ℕ) (Moves : Type 0) where
  -- file f becomes g, with rights to r
  pub record Allowed (r f g : File) : Type 0 where
    pub stays : Stays f g
    pub rightful : Rightful ids now r f g
    pub parent : (parent_in f.kind ≡ parent_in g.kind) ⊎ Moves

  pub record Comes (g : File) : Type 0 where
    pub own : IsOwn ids g
    pub volume : g.volume ≡ index
    pub moves : Moves

  -- of a file that was or wasn't, what is or isn't
  abbrev pub Becomes : Option File → Option File → Type 0
  Becomes None None = Unit {0}
  Becomes None (Some g) = Comes g
  Becomes (Some f) None = (f.volume ≡ index) × Moves
  Becomes (Some f) (Some g) = Allowed f f g × ((f ≡ g) ⊎ (f.volume ≡ index))

  abbrev pub Leads : Tree → Tree → Type 0
  Leads t u = (m : ℕ) → Becomes (at m t.files) (at m u.files)

  allowed_itself : (r f : File) → Allowed r f f
  allowed_itself r f = record { stays = stays_itself f; rightful = rightful_itself ids now r f; parent = inl refl }

  allowed_on : (r f g h : File) → Allowed r f g → Allowed r g h → Allowed r f h
  allowed_on r f g h a b = record {
    stays = stays_on f g h a.stays b.stays;
    rightful = rightful_on ids now r f g h a.rightful b.rightful;
    parent = elim a.parent as (λ x. (parent_in f.kind ≡ parent_in h.kind) ⊎ Moves) [
      | inl e ↦ elim b.parent as (λ x. (parent_in f.kind ≡ parent_in h.kind) ⊎ Moves) [
        | inl g ↦ inl (e ∙ g)
        | inr m ↦ inr m
      ]
      | inr m ↦ inr m
    ];
  }

  becomes_itself : (o : Option File) → Becomes o o
  becomes_itself None = tt
  becomes_itself (Some f) = (allowed_itself f f, inl refl)

  pub leads_itself : (t : Tree) → Leads t t
  leads_itself t m = becomes_itself (at m t.files)

  module _ (t u : Tree) (led : Leads t u) where
    -- one file more is changed
    pub leads_on : (n : ℕ) (r : File) → Lives t n r → r.volume ≡ index → (h : File → File) → ((f : File) → at n u.files ≡ Some f → Allowed r f (h f)) → Leads t (on_some (at n u.files) u (λ f. with_file u n (h f)))
    leads_on n r at_r volume h may m = by_number m n
        (λ s. here (at n u.files) refl m s)
        (λ o. subst (Becomes (at m t.files)) (sym (elsewhere (at n u.files) m o)) (led m))
      where
        elsewhere : (o : Option File) (m : ℕ) → m ≢ n → at m (on_some o u (λ f. with_file u n (h f))).files ≡ at m u.files
        elsewhere None m apart = refl
        elsewhere (Some f) m apart = at_with_other n m (h f) u.files apart

        here : (o : Option File) → at n u.files ≡ o → (m : ℕ) → m ≡ n → Becomes (at m t.files) (at m (on_some o u (λ f. with_file u n (h f))).files)
        here None e m s = led m
        here (Some f) e m s =
            let was : at m t.files ≡ Some r = ap (λ k. at k t.files) s ∙ at_r in
            let is : at m (with_file u n (h f)).files ≡ Some (h f) = ap (λ k. at k (with_file u n (h f)).files) s ∙ at_with_same n f (h f) u.files e in
            let before : Becomes (Some r) (Some f) = subst (λ o. Becomes o (Some f)) was (subst (Becomes (at m t.files)) (ap (λ k. at k u.files) s ∙ e) (led m)) in
            let now : Becomes (Some r) (Some (h f)) = (allowed_on r r f (h f) before.0 (may f e), inr volume) in
            subst (λ o. Becomes o (at m (with_file u n (h f)).files)) (sym was) (subst (Becomes (Some r)) (sym is) now)

    pub leads_without : (n low next : ℕ) (r : File) → AreRising low u.files next → Lives t n r → r.volume ≡ index → Moves → Leads t (without_file u n)
    leads_without n low next r rising at_r volume moves m = by_number m n
        (λ s. subst (λ o. Becomes o (at m (without_file u n).files)) (sym (ap (λ k. at k t.files) s ∙ at_r)) (subst (Becomes (Some r)) (sym (ap (λ k. at k (without_file u n).files) s ∙ at_without_same low next n u.files rising)) (volume, moves)))
        (λ o. subst (Becomes (at m t.files)) (sym (at_without_other n m u.files o)) (led m))

    pub leads_new : (f : File) → at u.next u.files ≡ None → at u.next t.files ≡ None → Comes f → Leads t (with_new_file u f)
    leads_new f none was comes m = by_number m u.next
        (λ s. subst (λ o. Becomes o (at m (with_new_file u f).files)) (sym (ap (λ k. at k t.files) s ∙ was)) (subst (Becomes None) (sym (ap (λ k. at k (with_new_file u f).files) s ∙ at_push_same u.next f u.files none)) comes))
        (λ o. subst (Becomes (at m t.files)) (sym (at_push_other u.next m f u.files o)) (led m))

-- ---- the policy

module _ (exports : List (List Export)) (caller : Caller) (now : Moment) (t u : Tree) (index : ℕ) (options : Options) (granted : options_at exports caller index ≡ Some options) (writable : options.read_only ≡ false)
    (Moves : Type 0) (moves : Moves → EntriesDiffer t u) (led : Leads (squash options caller.cred) now index Moves t u) (keeps : Keeps (MayGo (squash options caller.cred) t) t u) where
  abbrev ids : Ids
  ids = squash options caller.cred

  abbrev At : Option File → Option File → Type 0
  At = Becomes ids now index Moves

  between : (n : ℕ) (o q : Option File) → at n t.files ≡ o → at n u.files ≡ q → At o q
  between n o q e g = subst (λ o. At o q) e (subst (At (at n t.files)) g (led n))

  is_rw : (index' : ℕ) → index' ≡ index → is_writable exports caller index' ≡ true
  is_rw index' e = ap (is_writable exports caller) e ∙ ap (λ o. on_some o false (λ (options : Options). not options.read_only)) granted ∙ ap not writable

  of_place : (o q : Option File) (f : File) → At o q → (o ≡ Some f) ⊎ (q ≡ Some f) → o ≢ q → f.volume ≡ index
  of_place None None f a (inl e) d = absurd (not_both refl e)
  of_place None None f a (inr e) d = absurd (not_both refl e)
  of_place None (Some g) f a (inl e) d = absurd (not_both refl e)
  of_place None (Some g) f a (inr e) d = ap (λ (k : File). k.volume) (sym (same_some e)) ∙ a.volume
  of_place (Some g) None f a (inl e) d = ap (λ (k : File). k.volume) (sym (same_some e)) ∙ a.0
  of_place (Some g) None f a (inr e) d = absurd (not_both refl e)
  of_place (Some g) (Some h) f a e d = by e (at_place a.1)
    where
      at_place : (g ≡ h) ⊎ (g.volume ≡ index) → g.volume ≡ index
      at_place (inl same) = absurd (d (ap Some same))
      at_place (inr here) = here

      by : (Some g ≡ Some f) ⊎ (Some h ≡ Some f) → g.volume ≡ index → f.volume ≡ index
      by (inl e) here = ap (λ (k : File). k.volume) (sym (same_some e)) ∙ here
      by (inr e) here = ap (λ (k : File). k.volume) (sym (same_some e)) ∙ a.0.stays.volume ∙ here

  -- of files that differ the volume is the place
  pub policy : Policy exports caller now t u
  policy = record {
    writable = λ n f lives d. is_rw f.volume (of_place (at n t.files) (at n u.files) f (led n) lives d);
    stays = λ n f g e h. (between n (Some f) (Some g) e h).0.stays;
    rightful = λ n f g ids' e h is. rightful_as (between n (Some f) (Some g) e h) is;
    deletion = λ d dir e f ids' at_d there gone at_f is. deletes d dir e f ids' at_d there gone at_f is;
    new = λ n g ids' e h is. let c = between n None (Some g) e h in subst (λ i. IsOwn i g) (same_ids g.volume ids' c.volume is) c.own;
    comes = λ n g e h. moves (between n None (Some g) e h).moves;
    goes = λ n f e h. moves (between n (Some f) None e h).1;
    parent = λ n f g e h d. parent_as (between n (Some f) (Some g) e h) d;
  }
    where
      same_ids : (index' : ℕ) (ids' : Ids) → index' ≡ index → ids_at exports caller index' ≡ Some ids' → ids ≡ ids'
      same_ids index' ids' e is = same_some (sym (ap (ids_at exports caller) e ∙ ap (option_map (λ (o : Options). squash o caller.cred)) granted) ∙ is)

      deletes : (d : ℕ) (dir : File) (e : Entry) (f : File) (ids' : Ids) → Lives t d dir → Contains (entries_in dir.kind) e → (Contains (entries_at u d) e → ⊥) → Lives t e.number f → ids_at exports caller dir.volume ≡ Some ids' → is_deleter ids' dir f ≡ true
      deletes d dir e f ids' at_d there gone at_f is =
          let was : Contains (entries_at t d) e = subst (λ o. Contains (on_some o [] (λ (f : File). entries_in f.kind)) e) (sym at_d) there in
          let here = of_place (at d t.files) (at d u.files) dir (led d) (inl at_d) (λ same. gone (subst (λ o. Contains (on_some o [] (λ (f : File). entries_in f.kind)) e) same was)) in
          elim (keeps d e was) [
            | inl c ↦ absurd (gone c)
            | inr may ↦ subst (λ i. is_deleter i dir f ≡ true) (same_ids dir.volume ids' here is) (may dir f at_d at_f)
          ]

      rightful_as : {f g : File} {ids' : Ids} → At (Some f) (Some g) → ids_at exports caller f.volume ≡ Some ids' → Rightful ids' now f f g
      rightful_as {f} {g} {ids'} a is = elim a.1 as (λ x. Rightful ids' now f f g) [
        | inl e ↦ subst (λ k. Rightful ids' now f f k) e (rightful_itself ids' now f f)
        | inr here ↦ subst (λ i. Rightful i now f f g) (same_ids f.volume ids' here is) a.0.rightful
      ]

      parent_as : {f g : File} → At (Some f) (Some g) → parent_in f.kind ≢ parent_in g.kind → EntriesDiffer t u
      parent_as {f} {g} a d = elim a.0.parent as (λ x. EntriesDiffer t u) [
        | inl e ↦ absurd (d e)
        | inr m ↦ moves m
      ]

-- the policy allows that nothing happens
pub policy_itself : (exports : List (List Export)) (caller : Caller) (now : Moment) (t : Tree) → Policy exports caller now t t
policy_itself exports caller now t = record {
  writable = λ n f lives d. absurd (d refl);
  stays = λ n f g e h. subst (Stays f) (same_some (sym e ∙ h)) (stays_itself f);
  rightful = λ n f g ids e h is. subst (Rightful ids now f f) (same_some (sym e ∙ h)) (rightful_itself ids now f f);
  new = λ n g ids e h is. absurd (not_both e h);
  deletion = λ d dir e f ids at_d there gone at_f is. absurd (gone (subst (λ o. Contains (on_some o [] (λ (f : File). entries_in f.kind)) e) (sym at_d) there));
  comes = λ n g e h. absurd (not_both e h);
  goes = λ n f e h. absurd (not_both h e);
  parent = λ n f g e h d. absurd (d (ap (λ (k : File). parent_in k.kind) (same_some (sym e ∙ h))));
}
