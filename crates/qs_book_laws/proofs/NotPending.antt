-- Of a transaction that no vote is found of, nothing is pending after a restart, nor as a run begins.
use Rattle.qs_book_laws.proofs.Words.{◌≡◌, ℕ, ◌==◌, ◌&&◌, Bool, true, false, List, [], ◌∷◌, refl, sym, ap, subst, ◌∙◌, flat_map, fold, map, if◌then◌else◌, fold-append, list_any, same_tid, Member, Tid, Found, BookValue, NodeValue, pending_at, keep_pending, note_of, opened_node, put_of, changes_at, is_kept_at, keep_found, reopened, restarted_node, without_records, Opened, Pending, TableValue, applied, kept, no_table, share_of, Share}
use Rattle.qs_book_laws.proofs.FoundParts.{is_opened_with, is_pending_again}
use Rattle.qs_book_laws.proofs.Shares.{number, share_put_other}
use Rattle.qs_base_lemmas.proofs.Tests.{or_first, or_last, and_rest}

none_again : (mid : BookValue) (tid : Tid) (member : Member) (done : List Tid) (pend : List Found) (t : TableValue) → list_any (is_pending_again mid tid member done) pend ≡ false
    → (share_of (fold kept t (flat_map (keep_found member.node.0 mid member.server.0 done) pend)) tid).changes ≡ (share_of t tid).changes
none_again mid tid member done [] t none = refl
none_again mid tid member done (found ∷ pend) t none =
    ap (λ (x : TableValue). (share_of x tid).changes) (fold-append kept t (keep_found member.node.0 mid member.server.0 done found) (flat_map (keep_found member.node.0 mid member.server.0 done) pend))
    ∙ (none_again mid tid member done pend _ (or_last _ _ none) ∙ one (is_kept_at member.node.0 mid member.server.0 done found) refl (or_first _ _ none))
  where
    one : (b : Bool) → is_kept_at member.node.0 mid member.server.0 done found ≡ b → is_pending_again mid tid member done found ≡ false
        → (share_of (fold kept t (if b then record { tid = found.tid; changes = changes_at member.node.0 mid member.server.0 found.tid } ∷ [] else [])) tid).changes ≡ (share_of t tid).changes
    one false is none = refl
    one true is none = ap (λ (x : Share). x.changes) (share_put_other t found.tid tid _ (and_rest (is_kept_at member.node.0 mid member.server.0 done found) (same_tid found.tid tid) is none))

pub none_held : (b : Bool) (member : Member) → member.server.0 ≡ number b → (inc : ℕ) (pend : List Found) (done : List Tid) (mid : BookValue) (node : NodeValue) (tid : Tid) → list_any (is_pending_again mid tid member done) pend ≡ false
    → pending_at (restarted_node (reopened member.node.0 inc pend done mid) pend done node) tid member.server.0 ≡ []
none_held true member is inc pend done mid node tid none = subst (λ (k : ℕ). pending_at (restarted_node (reopened member.node.0 inc pend done mid) pend done node) tid k ≡ []) (sym is)
    (none_again mid tid (record { node = member.node; server = record { 0 = 0 } }) done pend (record (applied (fold without_records node done).files (reopened member.node.0 inc pend done mid).files) { shares = [] })
    (subst (λ (k : ℕ). list_any (is_pending_again mid tid (record { node = member.node; server = record { 0 = k } }) done) pend ≡ false) is none))
none_held false member is inc pend done mid node tid none = subst (λ (k : ℕ). pending_at (restarted_node (reopened member.node.0 inc pend done mid) pend done node) tid k ≡ []) (sym is)
    (none_again mid tid (record { node = member.node; server = record { 0 = 1 } }) done pend (record (applied (fold without_records node done).audit (reopened member.node.0 inc pend done mid).audit) { shares = [] })
    (subst (λ (k : ℕ). list_any (is_pending_again mid tid (record { node = member.node; server = record { 0 = k } }) done) pend ≡ false) is none))

none_opened : (tid : Tid) (member : Member) (pending : List Pending) (t : TableValue) → list_any (is_opened_with tid member) pending ≡ false → (share_of (fold kept t (flat_map (keep_pending member.server.0) pending)) tid).changes ≡ (share_of t tid).changes
none_opened tid member [] t none = refl
none_opened tid member (p ∷ pending) t none =
    ap (λ (x : TableValue). (share_of x tid).changes) (fold-append kept t (keep_pending member.server.0 p) (flat_map (keep_pending member.server.0) pending))
    ∙ (none_opened tid member pending _ (or_last _ _ none) ∙ one (p.server.0 == member.server.0) refl (or_first _ _ none))
  where
    far : (b c : Bool) → c ≡ true → (b && c) ≡ false → b ≡ false
    far true true e f = f
    far false c e f = refl
    far true false e f = absurd (cc e)

    one : (b : Bool) → (p.server.0 == member.server.0) ≡ b → is_opened_with tid member p ≡ false
        → (share_of (fold kept t (if b then record { tid = p.tid; changes = p.changes } ∷ [] else [])) tid).changes ≡ (share_of t tid).changes
    one false is none = refl
    one true is none = ap (λ (x : Share). x.changes) (share_put_other t p.tid tid _ (far (same_tid p.tid tid) (p.server.0 == member.server.0) is none))

pub none_first : (b : Bool) (member : Member) → member.server.0 ≡ number b → (one : Opened) (tid : Tid) → list_any (is_opened_with tid member) one.pending ≡ false → pending_at (opened_node one) tid member.server.0 ≡ []
none_first true member is one tid none = subst (λ (k : ℕ). pending_at (opened_node one) tid k ≡ []) (sym is)
    (none_opened tid (record { node = member.node; server = record { 0 = 0 } }) one.pending (record (applied no_table (map put_of one.files)) { shares = [] }) (subst (λ (k : ℕ). list_any (is_opened_with tid (record { node = member.node; server = record { 0 = k } })) one.pending ≡ false) is none))
none_first false member is one tid none = subst (λ (k : ℕ). pending_at (opened_node one) tid k ≡ []) (sym is)
    (none_opened tid (record { node = member.node; server = record { 0 = 1 } }) one.pending (record (applied no_table (map note_of one.audit)) { shares = [] }) (subst (λ (k : ℕ). list_any (is_opened_with tid (record { node = member.node; server = record { 0 = k } })) one.pending ≡ false) is none))
