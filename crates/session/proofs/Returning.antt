-- The return to a mark, and the bindings taken back on the way.
use Rattle.std.proofs.Common.{◌≡◌, ℕ, ◌<◌, ◌≤◌, List, [], ◌∷◌, length, take, drop, reverse, Ok, sym, refl, ap, ◌∙◌, subst, arith}
use Rattle.std.proofs.lemmas.List.{take-take, take_all, length-take-le, reverse-append}
use Rattle.kinds.specs.Kinds.{Operations, Lawful}
use Rattle.terms.specs.declared.normal.Normal.{Normal}
use Rattle.steps.specs.declared.Binding.{Binding}
use Rattle.solving.specs.Equations.{Every, WithinEquation}
use Rattle.solving.specs.Theorems.{Records}
use Rattle.steps.specs.Rows.{images, EqualImages}
use Rattle.steps.specs.Trails.{Tracing, Traced, Ended, unbinding}
use Rattle.solving.proofs.Theorems.{every_take, recorded}
use Rattle.steps.proofs.Trails.{tracing_start, tracing_pop, tracing_end, solves_now}
use Rattle.session.specs.declared.answer.Reply.TheVariants.{Done}
use Rattle.heads.specs.declared.head.Head.{Head}
use Rattle.heads.specs.declared.trail.Trail.{Trail}
use Rattle.session.specs.declared.Session.{Session}
use Rattle.heads.specs.Heads.{Memory, marks_of, SameCounts, WithMark, counted_head, bindings_of, Extended, latest_first}
use Rattle.session.specs.Accounts.{Account, opened, use_of, return_to_mark, with_standing, with_marks, Step, returned}
use Rattle.session.specs.Keeping.{slots_of, ledger_of, Kept}
use Rattle.session.specs.Frames.{SameMemory}
use Rattle.session.proofs.Recording.{records_take}
use Rattle.session.proofs.Keeping.{recounted}

-- the bindings of s that entries from m on made are being taken back, and t is what s became
pub record Unwinding {C : Type 0} (k : Operations C) (n : ℕ) (s : Session C) (m : ℕ) (t : Session C) : Type 0 where
  pub traces : (top : ℕ) → Tracing k n (ledger_of s) (latest_first s.trail) top m (images k (slots_of s))
      → Tracing k n (ledger_of s) (latest_first t.trail) top m (images k (slots_of t))
  pub head : t.head ≡ s.head
  pub slots : drop n (slots_of t) ≡ drop n (slots_of s)
  pub ledger : ledger_of t ≡ ledger_of s
  pub memory : SameMemory s t

module _ {C : Type 0} (k : Operations C) (lawful : Lawful k) where
  -- one binding more is taken back
  pub tracing_back : (n : ℕ) (ledger : List (Normal C)) (t t' : Trail) (b : Binding) (top m : ℕ) (slots slots' : List (Normal C)) → Extended t' b t → m ≤ b.entry
      → (b.variable < n → EqualImages n (images k slots') (unbinding k b.variable b.changed (images k slots)))
      → Tracing k n ledger (latest_first t) top m (images k slots) → Tracing k n ledger (latest_first t') top m (images k slots')
  tracing_back n ledger t t' b top m slots slots' popped from back h =
      let front : latest_first t ≡ b ∷ latest_first t' = ap reverse popped ∙ reverse-append (bindings_of t') (b ∷ []) in
      tracing_pop k lawful n ledger b (latest_first t') top m (images k slots) (images k slots') from back
      (subst (λ ts. Tracing k n ledger ts top m (images k slots)) front h)

  -- none is left to take back
  pub unwinding_end : (n : ℕ) (s t : Session C) (m : ℕ) (trail : Trail) → Unwinding k n s m t → Ended m (latest_first t.trail) × (trail ≡ t.trail)
      → (top : ℕ) → Tracing k n (ledger_of s) (latest_first s.trail) top m (images k (slots_of s))
      → Traced k n (ledger_of s) (latest_first trail) m (images k (slots_of t))
  unwinding_end n s t m trail before ended top h =
      rw ended.1 (tracing_end k lawful n (ledger_of s) (latest_first t.trail) top m (images k (slots_of t)) ended.0 (before.traces top h))

  -- an account, once the latest mark m is gone: h' is its head
  module _ {h : Head} {trail : Trail} {slots ledger : List (Normal C)} {a : Account C} (kept : Kept k h trail slots ledger a) (h' : Head) (m : ℕ) (unmarked : WithMark h' m h) where
    abbrev pub before : Account C
    before = with_marks (with_standing a (take m a.standing)) (marks_of h')

    pub return_step : (memory : Memory) → Step k memory (opened a) (use_of return_to_mark) (Ok Done) (opened before)
    return_step memory = returned m (marks_of h') (sym kept.marks ∙ unmarked.marks)

    same_counts : SameCounts h h'
    same_counts = record { size = sym unmarked.counts.size; standing = sym unmarked.counts.standing; usable = sym unmarked.counts.usable }

    kept' : Kept k h' trail slots ledger (with_marks a (marks_of h'))
    kept' = recounted k lawful kept h' same_counts

    -- none was posted since
    pub keeps_all : h'.standing ≤ m → Kept k h' trail slots ledger before
    keeps_all le =
        let all : take m a.standing ≡ a.standing = take_all m a.standing (let e = kept'.count in omega arith) in
        record {
          fit = record { range = kept'.fit.range; room = kept'.fit.room; standing = kept'.fit.standing; entries = kept'.fit.entries };
          size = kept'.size;
          usable = kept'.usable;
          count = rw all kept'.count;
          marks = refl;
          within = rw all kept'.within;
          recorded = rw all kept'.recorded;
          solved = rw all kept'.solved;
          traced = kept'.traced;
        }

    -- the equations since are withdrawn, and the slots taken back
    pub keeps_first : m < h'.standing → (trail' : Trail) (slots' : List (Normal C)) → length slots' ≡ length slots
        → ((top : ℕ) → Tracing k h'.size ledger (latest_first trail) top m (images k slots) → Traced k h'.size ledger (latest_first trail') m (images k slots'))
        → Kept k (counted_head h' m) trail' slots' ledger before
    keeps_first l trail' slots' same unwound =
        let traced = unwound h'.standing (tracing_start k lawful h'.size ledger (latest_first trail) h'.standing m (images k slots) (omega arith) kept'.traced) in
        let front : take m (take h'.standing ledger) ≡ take m ledger = take-take m h'.standing ledger (omega arith) in
        let inside : Every (WithinEquation h'.size) (take m a.standing) = every_take (WithinEquation h'.size) m a.standing kept'.within in
        let so_recorded : Records k (take m a.standing) (take m ledger) = rw front at (records_take k m a.standing (take h'.standing ledger) kept'.recorded) in
        record {
          fit = record { range = kept'.fit.range; room = rw same kept'.fit.room; standing = omega (arith, kept'.fit.standing); entries = kept'.fit.entries };
          size = kept'.size;
          usable = kept'.usable;
          count = length-take-le m a.standing (let e = kept'.count in omega arith);
          marks = refl;
          within = inside;
          recorded = so_recorded;
          solved = (recorded k lawful h'.size _ inside _ so_recorded (images k slots')).1 (solves_now k lawful h'.size ledger _ m (images k slots') traced);
          traced = traced;
        }
