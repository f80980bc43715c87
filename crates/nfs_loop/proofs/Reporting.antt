-- What is reported, one thing after another.
use Rattle.std.proofs.Common.{◌≡◌, List, [], ◌∷◌, ◌++◌, Option, Some, sym, ap, ◌∙◌, append_assoc}
use Rattle.nfs_loop.specs.Reports.{Report, came, at, IsReported, IsReportedFirst, IsReportedIn, ReportsMore, AreBy, ComeBy, KeepExports, Accounts}
use Rattle.nfs_serving.specs.Service.{Change, joins, turns, leaves, passes, reloads, settles}

by_more : (more news : List Report) (changes : List Change) → AreBy news changes → AreBy (more ++ news) changes
by_more more news [] a = tt
by_more more news (joins key number addr ∷ earlier) a = (
  more ++ a.0,
  a.1,
  record {
    peer = a.2.peer;
    addr_is = a.2.addr_is;
    reported = ap (λ l. more ++ l) a.2.reported ∙ sym (append_assoc more a.0 (came key a.2.peer ∷ a.1));
  },
  a.3,
)
by_more more news (turns key moment bytes ∷ earlier) a = (more ++ a.0, a.1, ap (λ l. more ++ l) a.2 ∙ sym (append_assoc more a.0 (at moment ∷ a.1)), a.3)
by_more more news (leaves key number calls end ∷ earlier) a = by_more more news earlier a
by_more more news (passes ∷ earlier) a = by_more more news earlier a
by_more more news (reloads exports ∷ earlier) a = by_more more news earlier a
by_more more news (settles notes ∷ earlier) a = by_more more news earlier a

by_then : (first second : List Report) (earlier later : List Change) → AreBy first earlier → AreBy second later → AreBy (second ++ first) (later ++ earlier)
by_then first second earlier [] a b = by_more second first earlier a
by_then first second earlier (joins key number addr ∷ later) a b = (
  b.0,
  b.1 ++ first,
  record {
    peer = b.2.peer;
    addr_is = b.2.addr_is;
    reported = ap (λ l. l ++ first) b.2.reported ∙ append_assoc b.0 (came key b.2.peer ∷ b.1) first;
  },
  by_then first b.1 earlier later a b.3,
)
by_then first second earlier (turns key moment bytes ∷ later) a b =
    (b.0, b.1 ++ first, ap (λ l. l ++ first) b.2 ∙ append_assoc b.0 (at moment ∷ b.1) first, by_then first b.1 earlier later a b.3)
by_then first second earlier (leaves key number calls end ∷ later) a b = by_then first second earlier later a b
by_then first second earlier (passes ∷ later) a b = by_then first second earlier later a b
by_then first second earlier (reloads exports ∷ later) a b = by_then first second earlier later a b
by_then first second earlier (settles notes ∷ later) a b = by_then first second earlier later a b

pub come_then : (a b c : Option (List Report)) (earlier later : List Change) → ComeBy a earlier b → ComeBy b later c → ComeBy a (later ++ earlier) c
come_then a b c earlier later f g before e =
    let x = f before e in
    let y = g (x.0 ++ before) x.1 in
    (y.0 ++ x.0, y.1 ∙ ap Some (sym (append_assoc y.0 x.0 before)), by_then x.0 y.0 earlier later x.2 y.2)

keep_then : (earlier later : List Change) → KeepExports earlier → KeepExports later → KeepExports (later ++ earlier)
keep_then earlier [] a b = a
keep_then earlier (joins key number addr ∷ later) a b = keep_then earlier later a b
keep_then earlier (turns key moment bytes ∷ later) a b = keep_then earlier later a b
keep_then earlier (leaves key number calls end ∷ later) a b = keep_then earlier later a b
keep_then earlier (passes ∷ later) a b = keep_then earlier later a b
keep_then earlier (reloads exports ∷ later) a b = absurd b
keep_then earlier (settles notes ∷ later) a b = keep_then earlier later a b

pub accounts_then : (a b c : Option (List Report)) (earlier later : List Change) → Accounts a earlier b → Accounts b later c → Accounts a (later ++ earlier) c
accounts_then a b c earlier later f g = (keep_then earlier later f.0 g.0, come_then a b c earlier later f.1 g.1)

pub accounts_none : (a : Option (List Report)) → Accounts a [] a
accounts_none a = (tt, λ before e. ([], e, tt))

-- one thing reported, by which nothing changes
pub accounts_one : (a b : Option (List Report)) (t : Report) → IsReported a t b → Accounts a [] b
accounts_one a b t report = (tt, λ before e. (t ∷ [], report before e, tt))

pub come_same : (a b : Option (List Report)) → b ≡ a → ComeBy a [] b
come_same a b same before e = ([], same ∙ e, tt)

pub accounts_same : (a b : Option (List Report)) → b ≡ a → Accounts a [] b
accounts_same a b same = (tt, come_same a b same)

-- ---- what was reported first

pub first_one : (a b : Option (List Report)) (t : Report) → IsReported a t b → IsReportedFirst a t b
first_one a b t report before e = ([], report before e)

pub first_then : (a b c : Option (List Report)) (t : Report) (later : List Change) → IsReportedFirst a t b → Accounts b later c → IsReportedFirst a t c
first_then a b c t later f g before e =
    let x = f before e in
    let y = g.1 (x.0 ++ t ∷ before) x.1 in
    (y.0 ++ x.0, y.1 ∙ ap Some (sym (append_assoc y.0 x.0 (t ∷ before))))

-- ---- what was reported in between

pub in_one : (a b : Option (List Report)) (t : Report) → IsReported a t b → IsReportedIn a t b
in_one a b t report before e = ([], [], report before e)

pub in_then : (a b c : Option (List Report)) (t : Report) → IsReportedIn a t b → ReportsMore b c → IsReportedIn a t c
in_then a b c t f g before e =
    let x = f before e in
    let y = g (x.0 ++ t ∷ (x.1 ++ before)) x.2 in
    (y.0 ++ x.0, x.1, y.1 ∙ ap Some (sym (append_assoc y.0 x.0 (t ∷ (x.1 ++ before)))))

pub in_after : (a b c : Option (List Report)) (t : Report) → ReportsMore a b → IsReportedIn b t c → IsReportedIn a t c
in_after a b c t f g before e =
    let x = f before e in
    let y = g (x.0 ++ before) x.1 in
    (y.0, y.1 ++ x.0, y.2 ∙ ap (λ l. Some (y.0 ++ t ∷ l)) (sym (append_assoc y.1 x.0 before)))

-- ---- more is reported

pub more_same : (a b : Option (List Report)) → b ≡ a → ReportsMore a b
more_same a b same before e = ([], same ∙ e)

pub more_one : (a b : Option (List Report)) (t : Report) → IsReported a t b → ReportsMore a b
more_one a b t report before e = (t ∷ [], report before e)

pub more_by : (a b : Option (List Report)) (changes : List Change) → Accounts a changes b → ReportsMore a b
more_by a b changes f before e = let x = f.1 before e in (x.0, x.1)

pub more_then : (a b c : Option (List Report)) → ReportsMore a b → ReportsMore b c → ReportsMore a c
more_then a b c f g before e =
    let x = f before e in
    let y = g (x.0 ++ before) x.1 in
    (y.0 ++ x.0, y.1 ∙ ap Some (sym (append_assoc y.0 x.0 before)))
