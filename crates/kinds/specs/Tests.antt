-- What is known of a test that holds.
use Rattle.std.specs.Prelude.{◌≡◌, Bool, true, false, ◌&&◌, T, refl}

pub passes_true : (b : Bool) → T b → b ≡ true
passes_true true t = refl
passes_true false t = absurd t

pub both_pass : (a b : Bool) → T a → T b → T (a && b)
both_pass true b s t = t
both_pass false b s t = absurd s

pub first_passes : (a b : Bool) → T (a && b) → T a
first_passes true b t = tt
first_passes false b t = t

pub second_passes : (a b : Bool) → T (a && b) → T b
second_passes true b t = t
second_passes false b t = absurd t
