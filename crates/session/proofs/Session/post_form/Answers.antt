use Rattle.std.proofs.Common.{◌+◌, ◌++◌, drop, sym, refl, ◌∙◌, arith, length-set}
use Rattle.std.proofs.lemmas.List.{get_or-set_other, drop-set-lt}
use Rattle.steps.specs.declared.verdict.Verdict.TheVariants.{Never}
use Rattle.steps.specs.declared.Taken.TheVariants.{Clashes}
use Rattle.steps.specs.Rows.{taken_as}
use Rattle.session.specs.Accounts.{form_full, form_clash, form_taken}
use Rattle.heads.specs.Heads.{counted_head}
use Rattle.session.proofs.Keeping.{kept_here, front_says, front_grown, front_undoable, front_length, front_stays, full, holds, space, met, with_this, posting, fits_as, size_as, standing_as, usable_as}
use Rattle.session.proofs.Session.post_form.Goals as goal

pub returns-then-entry-head-clause-told : goal.returns-then-entry-head-clause-told
returns-then-entry-head-clause-told g c a e keeps inside same =
    let k = g.K.Kind.ops in
    let l = g.met.K.Kind.lawful in
    let kept = kept_here k c.args.self.now c.in-Some.is a keeps in
    (a, form_full (full k l kept c.if-entry-head.true), (c.in-Some.head, refl, kept))

pub returns-in-Clashes-clause-told : goal.returns-in-Clashes-clause-told
returns-in-Clashes-clause-told g c a e keeps inside same =
    let k = g.K.Kind.ops in
    let l = g.met.K.Kind.lawful in
    let x = c.args.form in
    let kept = kept_here k c.args.self.now c.in-Some.is a keeps in
    let says = front_says k l kept x Never c.in-Clashes.ensures.verdict in
    let back = front_undoable k l kept x Clashes c.take_in-taken.new.row c.take_in-taken.auto.row c.in-Clashes.ensures.undoable in (
      a,
      form_clash (space k l kept x e inside same c.if-entry-head.false) (holds k l kept x e inside same Never says),
      (c.in-Some.head, refl, rw back kept),
    )

pub returns : goal.returns
returns g c =
    let k = g.K.Kind.ops in
    let l = g.met.K.Kind.lawful in
    let s = c.args.self.now in
    let h = c.in-Some.head in
    let here = c.in-Some.is in
    let x = c.args.form in
    let took = c.take_in-taken.ensures in
    let out = c.take_in-taken.result in
    let front = c.take_in-taken.new.row in
    let room = (s.fits h here).room in
    record {
      told = λ a e keeps inside same.
          let kept = kept_here k s here a keeps in
          let y = met k l kept x e inside same out c.in_default-taken.not-Clashes (front_says k l kept x (taken_as out) took.verdict) in (
            with_this k l kept x e inside same,
            form_taken (space k l kept x e inside same c.if-entry-head.false) y.0 y.1 y.2,
            (
              counted_head h (h.standing + 1),
              refl,
              posting k l kept x e inside same c.if-entry-head.false out c.in_default-taken.not-Clashes (front ++ drop h.size s.slots.now)
                  (front_length k l kept x out front c.take_in-taken.auto.row)
                  (front_grown k l kept x out front c.take_in-taken.auto.row took.grown)
                  (front_undoable k l kept x out front c.take_in-taken.auto.row took.undoable) c.note.new.self c.note.ensures,
            ),
          );
      refused = tt;
      slots = rw (size_as s here) (front_stays k h.size s.slots.now room front c.take_in-taken.auto.row).0;
      ledger = record {
        others = λ j d y. get_or-set_other s.ledger.now h.standing j x y (λ same. d (same ∙ sym (standing_as s here)));
        beyond = rw (usable_as s here) (drop-set-lt h.usable s.ledger.now h.standing x c.if-entry-head.false);
      };
      memory = record { slots = refl; ledger = refl; lengths = rw ((front_stays k h.size s.slots.now room front c.take_in-taken.auto.row).1, length-set s.ledger.now h.standing x) refl };
    }

pub invariant_of-self-2 : goal.invariant_of-self-2
invariant_of-self-2 g c =
    let s = c.args.self.now in
    let h = c.in-Some.head in
    let fit = s.fits h c.in-Some.is in
    let stays = front_stays g.K.Kind.ops h.size s.slots.now fit.room c.take_in-taken.new.row c.take_in-taken.auto.row in
    record {
      fits = fits_as (counted_head h (h.standing + 1)) (record {
        range = fit.range;
        room = rw stays.1 fit.room;
        standing = omega (arith, c.if-entry-head.false);
        entries = rw (length-set s.ledger.now h.standing c.args.form) fit.entries;
      });
    }
