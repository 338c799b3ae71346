-- How the calls keep the account.
use Rattle.std.proofs.Common.{◌≡◌, ℕ, ◌+◌, ◌<◌, ◌≤◌, min, ◌↔◌, List, [], ◌∷◌, ◌++◌, length, take, drop, set, Ok, Err, Result, IsErrAnd, Some, None, Option, sym, refl, ap, ◌∙◌, subst, arith, length-set}
use Rattle.std.proofs.lemmas.List.{take_more_set, length_push, length-take-le, length-reverse, reverse-append}
use Rattle.std.specs.Option.{option_map_or, ForSome}
use Rattle.kinds.specs.Kinds.{Operations, Lawful}
use Rattle.refusals.specs.declared.Refusal.{Refusal}
use Rattle.refusals.specs.declared.Refusal.TheVariants.{Closed}
use Rattle.terms.specs.declared.normal.Normal.{Normal}
use Rattle.terms.specs.Limits.{InRange, most_variables}
use Rattle.terms.specs.NormalForms.{SameNormal}
use Rattle.terms.proofs.NormalForms.{normal_laws}
use Rattle.tables.specs.Tables.{Input, Sound, Unsound}
use Rattle.tables.specs.Calls.{Refused as TableRefused, PastMemory, Worked, bad_size, unsound}
use Rattle.tables.proofs.Tables.{term_in}
use Rattle.steps.specs.declared.Taken.{Taken}
use Rattle.steps.specs.declared.Taken.TheVariants as taken
use Rattle.steps.specs.declared.verdict.Verdict.{Verdict}
use Rattle.steps.specs.declared.verdict.Verdict.TheVariants.{Forced, Never, Open}
use Rattle.solving.specs.Substitutions.{Substitution, Over}
use Rattle.solving.specs.Equations.{Equation, WithinEquation, Meets, MeetsAll, Every, Clears, joined_sides}
use Rattle.solving.specs.SolvedForms.{Solved}
use Rattle.solving.specs.Theorems.{Records}
use Rattle.steps.specs.Rows.{images, AllFree, SolvedRow, Says, Grown, taken_as}
use Rattle.steps.specs.Trails.{Traced, Undoable}
use Rattle.solving.proofs.Applying.{apply_same, meets_clears}
use Rattle.solving.proofs.Theorems.{every_more, recorded_all, recorded}
use Rattle.steps.proofs.RowSteps.{row_starts}
use Rattle.steps.proofs.Fronts.{front_solved, whole_free, whole_grown, whole_undoable, whole_length, whole_rest}
use Rattle.steps.proofs.Trails.{traced_start, traced_as, traced_follows, traced_binds, counts_now}
use Rattle.session.specs.declared.answer.Reply.TheVariants.{Image}
use Rattle.heads.specs.declared.head.Head.{Head}
use Rattle.heads.specs.declared.trail.Trail.{Trail}
use Rattle.session.specs.declared.Session.{Session}
use Rattle.heads.specs.Limits.{most_entries, most_marks}
use Rattle.heads.proofs.Few.{marks_few}
use Rattle.heads.specs.Heads.{Memory, Fit, marks_of, SameCounts, NewHead, Marking, counted_head, bindings_of, latest_first, Noting}
use Rattle.session.specs.declared.answer.Receipt.{Receipt}
use Rattle.session.specs.Accounts.{Account, State, closed, opened, Use, Call, AnswerOf, use_of, post, mark, show, new, with_standing, with_marks, equation, Solution, Holds, Step, still_closed, post_full, post_clash, post_taken, mark_full, marked, shown, FormPosted, form_full, form_clash, form_taken}
use Rattle.session.specs.Keeping.{slots_of, ledger_of, memory_of, size_of, standing_of, usable_of, Ready, Kept, Keeps, Answered, Judges, reply, posted_reply}
use Rattle.session.specs.Frames.{SameMemory, Unchanged, OnlyNext, PastInput}
use Rattle.session.proofs.Recording.{records_more}

-- a refusal that `?` passes on
pub passed_on : {T : Type 0} (r : Result T Refusal) (q : Refusal) → IsErrAnd r (λ y. y ≡ q) → r ≡ Err q
passed_on (Ok x) q e = absurd e
passed_on (Err y) q e = ap Err e

-- open and closed

-- an option has one head, or none
one_head : {o : Option Head} (h h' : Head) → o ≡ Some h → o ≡ Some h' → h ≡ h'
one_head h h' e e' = cc

pub no_head : {o : Option Head} {h : Head} → o ≡ None → o ≡ Some h → ⊥
no_head e e' = cc

same_some : (h h' : Head) → Some h ≡ Some h' → h ≡ h'
same_some h h' e = cc

-- the fact that a session keeps of its head, where it has the head h
pub fits_as : {m : Memory} (h : Head) → Fit h m → ForSome (Some h) (λ z. Fit z m)
fits_as {m} h fit z e = subst (λ x. Fit x m) (same_some h z e) fit

-- what the head tells
module _ {C : Type 0} (s : Session C) where
  module _ {h : Head} (e : s.head ≡ Some h) where
    pub ready_as : Ready s
    ready_as = (h, e, s.fits h e)

    pub size_as : size_of s ≡ h.size
    size_as = ap (λ o. option_map_or (λ (z : Head). z.size) o 0) e

    pub standing_as : standing_of s ≡ h.standing
    standing_as = ap (λ o. option_map_or (λ (z : Head). z.standing) o 0) e

    pub usable_as : usable_of s ≡ h.usable
    usable_as = ap (λ o. option_map_or (λ (z : Head). z.usable) o 0) e

    -- what a call on a table says of the working bytes
    pub worked_input : (i : Input C) (count : ℕ) (before after : List ℕ) → Worked (PastMemory h.size i) count before after
        → Worked (PastInput s i) count before after
    worked_input i count before after w =
        (λ past. w.0 ((s.fits h e).range, past.1, past.2), λ unpast. w.1 (λ past. unpast (ready_as, past.1, past.2)))

  pub not_ready : s.head ≡ None → Ready s → ⊥
  not_ready e ready = no_head e ready.1

  -- of a closed session the working bytes stay as they are
  pub worked_closed : (i : Input C) (count : ℕ) (before : List ℕ) → (Ready s → ⊥) → Worked (PastInput s i) count before before
  worked_closed i count before shut = (λ past. absurd (shut past.0), λ unpast. refl)

  -- what a call that changes nothing leaves

  pub unchanged_self : Unchanged s s
  unchanged_self = record { head = refl; trail = refl; slots = refl; ledger = refl }

  pub same_memory : SameMemory s s
  same_memory = record { slots = refl; ledger = refl; lengths = refl }

  pub only_next_self : OnlyNext s s
  only_next_self = record { others = λ i d x. refl; beyond = refl }

-- what an account that is kept tells, and a call answered
module _ {C : Type 0} (k : Operations C) (s : Session C) where
  abbrev pub KeptBy : Account C → Head → Type 0
  KeptBy a h = Kept k h s.trail (slots_of s) (ledger_of s) a

  pub kept_ready : (a : Account C) → Keeps k s (opened a) → Ready s
  kept_ready a kept = ready_as s kept.1

  pub kept_size : (a : Account C) → Keeps k s (opened a) → a.size ≡ size_of s
  kept_size a kept = kept.2.size ∙ sym (size_as s kept.1)

  pub kept_usable : (a : Account C) → Keeps k s (opened a) → a.usable ≡ usable_of s
  kept_usable a kept = kept.2.usable ∙ sym (usable_as s kept.1)

  pub kept_solved : (a : Account C) → Keeps k s (opened a) → Solved k (size_of s) a.standing (images k (slots_of s))
  kept_solved a kept = rw (size_as s kept.1) kept.2.solved

  pub answered_closed : (u : Use C) → s.head ≡ None → Answered k s (use_of u) (Err Closed) s
  answered_closed u e closed h = (closed, still_closed, h)
  answered_closed u e (opened a) h = absurd (no_head e h.1)

  module _ {h : Head} (e : s.head ≡ Some h) where
    pub kept_here : (a : Account C) → Keeps k s (opened a) → KeptBy a h
    kept_here a kept = subst (KeptBy a) (one_head kept.0 h kept.1 e) kept.2

    -- Q is what the session keeps afterwards
    pub answered_open : (Q : State C → Type 0) (call : Call C) (answer : AnswerOf C)
        → ((a : Account C) → KeptBy a h → (b : Account C) × Step k (memory_of s) (opened a) call answer (opened b) × Q (opened b))
        → (a : State C) → Keeps k s a → (b : State C) × Step k (memory_of s) a call answer b × Q b
    answered_open Q call answer f closed n = absurd (n (ready_as s e))
    answered_open Q call answer f (opened a) kept = let q = f a (kept_here a kept) in (opened q.0, q.1, q.2)

    -- by a call that changes nothing
    pub answered_same : (call : Call C) (answer : AnswerOf C)
        → ((a : Account C) → KeptBy a h → Step k (memory_of s) (opened a) call answer (opened a)) → Answered k s call answer s
    answered_same call answer f = answered_open (Keeps k s) call answer (λ a kept. (a, f a kept, (h, e, kept)))

-- as many marks as a head can hold, at most
pub kept_few : {C : Type 0} (k : Operations C) (h : Head) (t : Trail) (slots ledger : List (Normal C)) (a : Account C) → Kept k h t slots ledger a
    → length a.marks ≤ most_marks
kept_few k h t slots ledger a kept = omega (arith, ap length kept.marks, marks_few h)

-- what posting gives is a step, once its input is sound
pub posted_step : {C : Type 0} (k : Operations C) (m : Memory) (a b : Account C) (i : Input C) (r : Result Receipt Refusal) → Sound a.size i
    → FormPosted k a (equation k i) r b → Step k m (opened a) (use_of (post i)) (posted_reply r) (opened b)
posted_step k m a b i r sound (form_full e) = post_full sound e
posted_step k m a b i r sound (form_clash l f) = post_clash sound l f
posted_step k m a b i r sound (form_taken l θ s y) = post_taken sound l θ s y

-- input that a table call has read

pub unsound_only : {C : Type 0} (n : ℕ) (i : Input C) (q : Refusal) → InRange n → TableRefused n i q → Unsound n i q
unsound_only n i q range (bad_size b) = absurd (b range)
unsound_only n i q range (unsound r u) = u

-- what is past the front stays, and so does the length
pub front_stays : {C : Type 0} (k : Operations C) (n : ℕ) (slots : List (Normal C)) → n ≤ length slots → (front : List (Normal C)) → length front ≡ length (take n slots)
    → (drop n (front ++ drop n slots) ≡ drop n slots) × (length (front ++ drop n slots) ≡ length slots)
front_stays k n slots room front same =
    let long : length front ≡ n = same ∙ length-take-le n slots room in
    (whole_rest k n front slots long, whole_length k n front slots long room)

module _ {C : Type 0} (k : Operations C) (lawful : Lawful k) where
  infixr 30 ◌▸◌
  open normal_laws lawful use {same_self, same_sym, same_trans as ◌▸◌}

  -- the session s, just opened with the head h and the trail t, keeps the new account
  pub opening : (s : Session C) (n u : ℕ) (front : List (Normal C)) → length front ≡ length (take n (slots_of s)) → u ≡ min (length (ledger_of s)) most_entries → InRange n
      → n ≤ length (slots_of s) → AllFree k (length (take n (slots_of s))) front → (h : Head) → NewHead n u h → (t : Trail) → bindings_of t ≡ []
      → (z : Head) × (Some h ≡ Some z) × Kept k z t (front ++ drop n (slots_of s)) (ledger_of s) (new (memory_of s) n)
  opening s n u front same usable range room free h head t none =
      let long : length (take n (slots_of s)) ≡ n = length-take-le n (slots_of s) room in
      let slots = front ++ drop n (slots_of s) in
      let all_free : AllFree k n (front ++ drop n (slots_of s)) = whole_free k n front (slots_of s) (same ∙ long) (rw long at free) in
      let start = row_starts k lawful n slots all_free in
      let stays = front_stays k n (slots_of s) room front same in (
        h,
        refl,
        record {
          fit = record { range = rw head.size range; room = rw (head.size, stays.1) room; standing = omega (arith, head.standing); entries = omega (arith, head.usable, usable) };
          size = sym head.size;
          usable = sym (head.usable ∙ usable);
          count = sym head.standing;
          marks = head.marks;
          within = tt;
          recorded = rw head.standing tt;
          solved = rw head.size start;
          traced = rw (head.size, head.standing, none) (traced_start k lawful n (ledger_of s) (images k slots) all_free start);
        },
      )

  module _ {h : Head} {t : Trail} {slots ledger : List (Normal C)} {a : Account C} (kept : Kept k h t slots ledger a) where
    abbrev n : ℕ
    n = h.size

    abbrev rs : List (Normal C)
    rs = take h.standing ledger

    abbrev m : Memory
    m = record { slots = length slots; ledger = length ledger }

    meets_all : (θ : Substitution C) → MeetsAll k θ a.standing ↔ Every (Clears k n θ) rs
    meets_all θ = recorded_all k lawful n a.standing kept.within rs kept.recorded θ

    -- the slots are the solved form of the ledger
    pub row : SolvedRow k n rs slots
    row = (recorded k lawful n a.standing kept.within rs kept.recorded (images k slots)).0 kept.solved

    -- the steps go by the front of the slots, which is all images and nothing else
    front_long : length (take n slots) ≡ n
    front_long = length-take-le n slots kept.fit.room

    front_row : SolvedRow k (length (take n slots)) rs (take n slots)
    front_row = rw front_long (front_solved k n lawful rs slots row)

    pub front_says : (x : Normal C) (w : Verdict)
        → ((rs' : List (Normal C)) → SolvedRow k (length (take n slots)) rs' (take n slots) → Says k (length (take n slots)) rs' x w) → Says k n rs x w
    front_says x w f = rw front_long at (f rs front_row)

    module _ (x : Normal C) (out : Taken) (front : List (Normal C)) (same : length front ≡ length (take n slots)) where
      pub front_grown : ((rs' : List (Normal C)) → SolvedRow k (length (take n slots)) rs' (take n slots) → Grown k (length (take n slots)) rs' x front out)
          → Grown k n rs x (front ++ drop n slots) out
      front_grown f = whole_grown k n lawful front slots (same ∙ front_long) rs x out (rw front_long at (f rs front_row))

      pub front_undoable : Undoable k (length (take n slots)) (take n slots) front out → Undoable k n slots (front ++ drop n slots) out
      front_undoable u = whole_undoable k n lawful front slots (same ∙ front_long) out (rw front_long at u)

      pub front_length : length (front ++ drop n slots) ≡ length slots
      front_length = (front_stays k n slots kept.fit.room front same).1

    over : (θ : Substitution C) → Over a.size θ → Over n θ
    over θ o = rw kept.size at o

    over_back : (θ : Substitution C) → Over n θ → Over a.size θ
    over_back θ o = rw kept.size o

    pub showing : (v : ℕ) → v < n → Step k m (opened a) (use_of (show v)) (Ok (Image (images k slots v))) (opened a)
    showing v l = shown (rw kept.size l) (images k slots) (rw kept.size kept.solved) (same_self _)

    -- a head of the same counts keeps the same, but for its marks
    pub recounted : (h' : Head) → SameCounts h h' → Kept k h' t slots ledger (with_marks a (marks_of h'))
    recounted h' same = record {
      fit = record { range = rw same.size kept.fit.range; room = rw same.size kept.fit.room; standing = rw (same.standing, same.usable) kept.fit.standing; entries = rw same.usable kept.fit.entries };
      size = kept.size ∙ sym same.size;
      usable = kept.usable ∙ sym same.usable;
      count = kept.count ∙ sym same.standing;
      marks = refl;
      within = rw same.size kept.within;
      recorded = rw same.standing kept.recorded;
      solved = rw same.size kept.solved;
      traced = rw (same.size, same.standing) kept.traced;
    }

    -- a mark, or as many as can be
    pub marking : (r : Result (Unit {0}) Refusal) (h' : Head) → Marking h r h'
        → (b : Account C) × Step k m (opened a) (use_of mark) (reply r) (opened b) × Kept k h' t slots ledger b
    marking (Err q) h' e = (a, rw e.0 (mark_full (ap length (sym kept.marks) ∙ e.1)), rw e.2 kept)
    marking (Ok x) h' e = (
      with_marks a (a.marks ++ (length a.standing ∷ [])),
      marked (rw kept.marks at e.0),
      rw (kept.marks, ← kept.count) at (rw e.1.marks at (recounted h' e.1.counts)),
    )

    -- the equation of input that is sound for the head's size
    module _ (i : Input C) (sound : Sound n i) where
      pub sound_here : Sound a.size i
      sound_here = rw kept.size sound

      pub within_here : WithinEquation a.size (equation k i)
      within_here =
          rw kept.size (term_in k n i.table sound.nodes i.left sound.left, term_in k n i.table sound.nodes i.right sound.right)

    -- an equation whose joined sides have the normal form x
    module _ (x : Normal C) (e : Equation C) (inside : WithinEquation a.size e) (same : SameNormal k x (joined_sides k e)) where
      e_within : WithinEquation n e
      e_within = rw kept.size at inside

      meets_this : (θ : Substitution C) → Meets k θ e ↔ Clears k n θ x
      meets_this θ =
          let both = meets_clears k lawful n θ e e_within in
          let alike = apply_same k lawful n θ x (joined_sides k e) same in
          (λ y. alike ▸ both.0 y, λ y. both.1 (same_sym alike ▸ y))

      pub holds : (w : Verdict) → Says k n rs x w → Holds k a e w
      holds Forced f = λ θ s. (meets_this θ).1 (f θ (over θ s.0) ((meets_all θ).0 s.1))
      holds Never f = λ θ s y. f θ (over θ s.0) ((meets_all θ).0 s.1) ((meets_this θ).0 y)
      holds Open f = (
        (f.0.0, (over_back f.0.0 f.0.1, (meets_all f.0.0).1 f.0.2), (meets_this f.0.0).1 f.0.3),
        (f.1.0, (over_back f.1.0 f.1.1, (meets_all f.1.0).1 f.1.2), λ y. f.1.3 ((meets_this f.1.0).0 y)),
      )

      abbrev pub with_this : Account C
      with_this = with_standing a (a.standing ++ (e ∷ []))

      -- some solution meets it, where it does not clash
      pub met : (out : Taken) → (out ≡ taken.Clashes → ⊥) → Says k n rs x (taken_as out) → (θ : Substitution C) × Solution k a θ × Meets k θ e
      met taken.Follows d f =
          let σ = images k slots in
          let s : Solution k a σ = (over_back σ kept.solved.over, kept.solved.meets) in
          (σ, s, holds Forced f σ s)
      met taken.Clashes d f = absurd (d refl)
      met (taken.Binds p s) d f = (holds Open f).0

      module _ (l : h.standing < h.usable) where
        pub space : length a.standing < a.usable
        space = let c = kept.count in let u = kept.usable in omega arith

        ledger' : List (Normal C)
        ledger' = set ledger h.standing x

        reads : take (h.standing + 1) ledger' ≡ rs ++ (x ∷ [])
        unfolding ledger'
        reads = take_more_set ledger h.standing x (omega (arith, kept.fit.entries))

        -- with whatever trail
        counting : (t' : Trail) (slots' : List (Normal C)) → length slots' ≡ length slots → SolvedRow k n (rs ++ (x ∷ [])) slots'
            → Traced k n ledger' (latest_first t') (h.standing + 1) (images k slots') → Kept k (counted_head h (h.standing + 1)) t' slots' ledger' with_this
        unfolding ledger'
        counting t' slots' long solved traced =
            let inside_all : Every (WithinEquation n) (a.standing ++ (e ∷ [])) = (every_more (WithinEquation n) a.standing e).1 (kept.within, e_within) in
            let recorded_so : Records k (a.standing ++ (e ∷ [])) (rs ++ (x ∷ [])) = records_more k a.standing rs e x kept.recorded (same_sym same) in
            record {
              fit = record { range = kept.fit.range; room = rw long kept.fit.room; standing = omega arith; entries = rw (length-set ledger h.standing x) kept.fit.entries };
              size = kept.size;
              usable = kept.usable;
              count = length_push a.standing e ∙ ap (λ c. c + 1) kept.count;
              marks = kept.marks;
              within = inside_all;
              recorded = rw reads recorded_so;
              solved = (recorded k lawful n _ inside_all _ recorded_so (images k slots')).1 solved;
              traced = traced;
            }

        pub posting : (out : Taken) → (out ≡ taken.Clashes → ⊥) → (slots' : List (Normal C)) → length slots' ≡ length slots → Grown k n rs x slots' out
            → Undoable k n slots slots' out → (t' : Trail) → Noting t out h.standing t'
            → Kept k (counted_head h (h.standing + 1)) t' slots' (set ledger h.standing x) with_this
        unfolding ledger'
        posting taken.Follows d slots' long f u t' note =
            rw note (counting t slots' long f
            (traced_as k lawful n _ _ _ (images k slots) (images k slots') (λ v b. rw u (same_self _))
            (traced_follows k lawful n ledger _ h.standing (images k slots) kept.traced x (rw reads (rw u at f)))))
        posting taken.Clashes d slots' long f u t' note = absurd (d refl)
        posting (taken.Binds p s) d slots' long f u t' note =
            let q = u rs row in
            let free : length (bindings_of t) < most_variables
            = omega (arith, length-reverse (bindings_of t), counts_now k lawful n ledger _ h.standing (images k slots) kept.traced, q.2, q.3, kept.fit.range.1) in
            counting t' slots' long f
            (rw (note.0 free, reverse-append (bindings_of t) (record { variable = p; entry = h.standing; changed = s } ∷ []))
            (traced_binds k lawful n ledger _ h.standing (images k slots) kept.traced x p s (images k slots') q.0 q.1 (rw reads f) q.2))

    pub full : h.usable ≤ h.standing → length a.standing ≡ a.usable
    full l = let c = kept.count in let u = kept.usable in omega (arith, kept.fit.standing)

-- what the steps say of the front of the slots is said of every equation whose joined sides the normal form is
pub judging : {C : Type 0} (k : Operations C) (lawful : Lawful k) (s : Session C) (h : Head) (e : s.head ≡ Some h) (form : Normal C) (w : Verdict)
    → ((rs : List (Normal C)) → SolvedRow k (length (take h.size (slots_of s))) rs (take h.size (slots_of s)) → Says k (length (take h.size (slots_of s))) rs form w)
    → Judges k s form w
judging k lawful s h e form w says a equation keeps inside same =
    let kept = kept_here k s e a keeps in
    holds k lawful kept form equation inside same w (front_says k lawful kept form w says)
