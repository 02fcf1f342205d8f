-- A log that reads like another goes on to do so as both get further records.
use Rattle.std.proofs.Common.{◌≡◌, ◌⊎◌, ◌∙◌, ℕ, Bool, true, false, List, [], ◌∷◌, ◌++◌, refl, sym, ap, subst, fold, map, inl, inr}
use Rattle.std.specs.Prelude.{not, ◌||◌, ◌==◌, if◌then◌else◌}
use Rattle.std.specs.List.{filter, flat_map, list_all}
use Rattle.std.proofs.lemmas.List.Elements.{filter-append}
use Rattle.std.proofs.lemmas.List.Sums.{fold-append}
use Rattle.std.proofs.lemmas.List.Folds.{list_any-append}
use Rattle.std.proofs.lemmas.Bool.{not-true, not_from_false, or_cases, or_left, or_right}
use Rattle.qs_base.specs.Order.{same_tid}
use Rattle.qs_base.specs.declared.identifiers.ServerNo.{ServerNo}
use Rattle.qs_base.specs.declared.identifiers.Tid.{Tid}
use Rattle.qs_base.proofs.Same.{same_tid-true}
use Rattle.qs_base_lemmas.proofs.Tests.{and_first, and_last}
use Rattle.qs_ops.specs.declared.operation.Op.{Op}
use Rattle.qs_ops.specs.declared.file.File.{File}
use Rattle.qs_ops.specs.Table.{TableValue, no_table, applied, apply_change, apply_note}
use Rattle.qs_record.specs.declared.record.Record.{Record}
use Rattle.qs_record.specs.declared.record.Record.TheVariants as records
use Rattle.qs_restart.specs.Recovery.{Prepared, Untold, Recovery, files_no, audit_no, extra_no, names_transaction, is_of, is_vote_of, is_untold_of, mark_committed, nothing_said, found_record, changes_at, ended, recovery}
use Rattle.qs_restart_state.specs.Alike.{EachStaysAlike, MakesSame, ReadsAlike, is_among, is_beyond, is_fresh, is_left, makes}
use Rattle.qs_restart_state.proofs.Lists.{filter_mapped, filter_within, filters_swap}

-- ---- what changes make of nothing

makes_more : (xs ys : List Op) → makes (xs ++ ys) ≡ applied (makes xs) ys
makes_more xs ys =
    ap (λ (l : List File). record (makes xs) { contents = l; notes = fold apply_note (no_table).notes (xs ++ ys) }) (fold-append apply_change (no_table).contents xs ys)
    ∙ ap (λ (l : List (List ℕ)). record (makes xs) { contents = fold apply_change (makes xs).contents ys; notes = l }) (fold-append apply_note (no_table).notes xs ys)

-- the same is made with further changes behind both
same_more : (xs ys zs : List Op) → MakesSame xs ys → MakesSame (xs ++ zs) (ys ++ zs)
same_more xs ys zs same = makes_more xs zs ∙ ap (λ (t : TableValue). applied t zs) same ∙ sym (makes_more ys zs)

-- ---- the committed transactions, with further ones behind both

among_more : (xs ys new : List Tid) (t : Tid) → (is_among xs t ≡ true → is_among ys t ≡ true) → is_among (xs ++ new) t ≡ true → is_among (ys ++ new) t ≡ true
among_more xs ys new t more is = list_any-append (same_tid t) ys new ∙ by (or_cases (is_among xs t) (is_among new t) (sym (list_any-append (same_tid t) xs new) ∙ is))
  where
    by : (is_among xs t ≡ true) ⊎ (is_among new t ≡ true) → (is_among ys t || is_among new t) ≡ true
    by (inl old) = or_left (is_among ys t) (is_among new t) (more old)
    by (inr late) = or_right (is_among ys t) (is_among new t) late

among_first : (xs new : List Tid) (t : Tid) → is_among xs t ≡ true → is_among (xs ++ new) t ≡ true
among_first xs new t is = list_any-append (same_tid t) xs new ∙ or_left (is_among xs t) (is_among new t) is

-- ---- one transaction that is not over

module _ (over : List Tid) where
  -- its votes are beyond
  its_beyond : (tid : Tid) → is_among over tid ≡ false → (vote : Prepared) → same_tid vote.tid tid ≡ true → is_beyond over vote ≡ true
  its_beyond tid off vote is = not_from_false _ (ap (is_among over) (same_tid-true vote.tid tid is) ∙ off)

  same_changes : (tid : Tid) (server : ServerNo) (full thin : Recovery) → is_among over tid ≡ false → thin.prepared ≡ filter (is_beyond over) full.prepared → changes_at server tid full ≡ changes_at server tid thin
  same_changes tid server full thin off is =
      sym (ap (λ (l : List Prepared). flat_map (λ (vote : Prepared). vote.changes) l)
      (ap (filter (is_vote_of tid server)) is ∙ filter_within (is_vote_of tid server) (is_beyond over) full.prepared (λ vote its. its_beyond tid off vote (and_first (same_tid vote.tid tid) (vote.server.0 == server.0) its))))

  others_more : (xs ys new : List Tid) → filter (is_left over) xs ≡ filter (is_left over) ys → filter (is_left over) (xs ++ new) ≡ filter (is_left over) (ys ++ new)
  others_more xs ys new same = filter-append (is_left over) xs new ∙ ap (λ (l : List Tid). l ++ filter (is_left over) new) same ∙ sym (filter-append (is_left over) ys new)

  -- ---- record by record

  ends_alike : (tid : Tid) (full thin : Recovery) → ReadsAlike over full thin → ReadsAlike over (ended tid full) (ended tid thin)
  ends_alike tid full thin r = record {
    files = r.files;
    audit = r.audit;
    extra = r.extra;
    prepared = ap (filter (λ vote. not (is_of tid vote))) r.prepared ∙ filters_swap (λ vote. not (is_of tid vote)) (is_beyond over) full.prepared;
    untold = ap (filter (λ commit. not (is_untold_of tid commit))) r.untold;
    over_are = r.over_are;
    fewer = r.fewer;
    others = r.others;
  }

  -- the changes of a Commit, and its name
  taken : Recovery → Tid → Recovery
  taken said tid = record said {
    files = said.files ++ changes_at files_no tid said;
    audit = said.audit ++ changes_at audit_no tid said;
    extra = said.extra ++ changes_at extra_no tid said;
    committed = said.committed ++ (if names_transaction tid then tid ∷ [] else []);
  }

  -- the changes of a server
  changes_alike : (tid : Tid) (server : ServerNo) (full thin : Recovery) (xs ys : List Op) → is_among over tid ≡ false → thin.prepared ≡ filter (is_beyond over) full.prepared → MakesSame xs ys
      → MakesSame (xs ++ changes_at server tid full) (ys ++ changes_at server tid thin)
  changes_alike tid server full thin xs ys off is same =
      subst (λ (l : List Op). MakesSame (xs ++ changes_at server tid full) (ys ++ l)) (same_changes tid server full thin off is) (same_more xs ys (changes_at server tid full) same)

  taken_alike : (tid : Tid) (full thin : Recovery) → is_among over tid ≡ false → ReadsAlike over full thin → ReadsAlike over (taken full tid) (taken thin tid)
  unfolding taken
  taken_alike tid full thin off r = record {
    files = changes_alike tid files_no full thin full.files thin.files off r.prepared r.files;
    audit = changes_alike tid audit_no full thin full.audit thin.audit off r.prepared r.audit;
    extra = changes_alike tid extra_no full thin full.extra thin.extra off r.prepared r.extra;
    prepared = r.prepared;
    untold = r.untold;
    over_are = λ t is. among_first full.committed (if names_transaction tid then tid ∷ [] else []) t (r.over_are t is);
    fewer = λ t. among_more thin.committed full.committed (if names_transaction tid then tid ∷ [] else []) t (r.fewer t);
    others = others_more thin.committed full.committed (if names_transaction tid then tid ∷ [] else []) r.others;
  }

  one_alike : (full thin : Recovery) (rec : Record) → is_fresh over rec ≡ true → ReadsAlike over full thin → ReadsAlike over (found_record full rec) (found_record thin rec)
  unfolding taken
  one_alike full thin (records.Prepare tid server covers changes) fresh r =
      let vote : Prepared = record { tid = tid; server = server; covers = covers; changes = changes; committed = false } in
      record {
        files = r.files;
        audit = r.audit;
        extra = r.extra;
        prepared =
            ap (λ (l : List Prepared). filter (λ other. not (is_vote_of tid server other)) l ++ vote ∷ []) r.prepared
            ∙ ap (λ (l : List Prepared). l ++ vote ∷ []) (filters_swap (λ other. not (is_vote_of tid server other)) (is_beyond over) full.prepared)
            ∙ ap (λ (l : List Prepared). filter (is_beyond over) (filter (λ other. not (is_vote_of tid server other)) full.prepared) ++ l) (sym (alone vote fresh))
            ∙ sym (filter-append (is_beyond over) (filter (λ other. not (is_vote_of tid server other)) full.prepared) (vote ∷ []));
        untold = r.untold;
        over_are = r.over_are;
        fewer = r.fewer;
        others = r.others;
      }
    where
      alone : (v : Prepared) → is_beyond over v ≡ true → filter (is_beyond over) (v ∷ []) ≡ v ∷ []
      alone v is = rw is refl
  one_alike full thin (records.Commit tid []) fresh r = ends_alike tid (taken full tid) (taken thin tid) (taken_alike tid full thin (not-true _ fresh) r)
  one_alike full thin (records.Commit tid (node ∷ nodes)) fresh r =
      let now = taken_alike tid full thin (not-true _ fresh) r in
      record {
        files = now.files;
        audit = now.audit;
        extra = now.extra;
        prepared = ap (map (mark_committed tid)) r.prepared ∙ sym (filter_mapped (mark_committed tid) (is_beyond over) full.prepared (λ vote. ap (λ (t : Tid). not (is_among over t)) (keeps vote)));
        untold = ap (λ (l : List Untold). l ++ record { tid = tid; told = node ∷ nodes } ∷ []) r.untold;
        over_are = now.over_are;
        fewer = now.fewer;
        others = now.others;
      }
    where
      keeps : (vote : Prepared) → (mark_committed tid vote).tid ≡ vote.tid
      keeps vote = by (is_of tid vote) refl
        where
          by : (b : Bool) → is_of tid vote ≡ b → (mark_committed tid vote).tid ≡ vote.tid
          by true is = rw is refl
          by false is = rw is refl
  one_alike full thin (records.Aborted tid) fresh r = ends_alike tid full thin r
  one_alike full thin (records.End tid) fresh r = ends_alike tid full thin r

  pub all_alike : (full thin : Recovery) (more : List Record) → list_all (is_fresh over) more ≡ true → ReadsAlike over full thin → ReadsAlike over (fold found_record full more) (fold found_record thin more)
  all_alike full thin [] fresh r = r
  all_alike full thin (rec ∷ more) fresh r = all_alike (found_record full rec) (found_record thin rec) more (and_last (is_fresh over rec) (list_all (is_fresh over) more) fresh) (one_alike full thin rec (and_first (is_fresh over rec) (list_all (is_fresh over) more) fresh) r)

pub stays_alike : EachStaysAlike
stays_alike over full thin more fresh r =
    let both : ReadsAlike over (fold found_record (recovery full) more) (fold found_record (recovery thin) more) = all_alike over (recovery full) (recovery thin) more fresh r in
    subst (λ (s : Recovery). ReadsAlike over s (recovery (thin ++ more))) (sym (fold-append found_record nothing_said full more))
    (subst (λ (s : Recovery). ReadsAlike over (fold found_record (recovery full) more) s) (sym (fold-append found_record nothing_said thin more)) both)
