-- Samples of sessions, over names and two variables: calls with the answers that they get, one after another.
--   table            one term table for all samples
--   at_x0, ..        its nodes, by the terms that they are
--   x1               the variable 1
--   memory           as many slots as variables, and four ledger entries
--   input_of i j     the input with node i on the left and node j on the right
--   posts i j        the equation of nodes i and j is posted, and taken
--   clashes i j      it is posted, and refused as a contradiction
--   asks i j w       it is queried, and told w
--   shows v t        variable v is shown, and its image is the normal form of t
--   marks            a mark is set
--   returns          the session returns to its latest mark
--   lacks_mark       it is told to return, and refused since there is no mark
--   session_samples  the table, each from a session just opened with two variables
--   Replays l        these calls can give these answers, one after another
use Rattle.std.specs.Prelude.{ℕ, List, [], ◌∷◌, Ok, Err}
use Rattle.refusals.specs.declared.Refusal.TheVariants.{Contradiction, NoMark}
use Rattle.kinds.specs.declared.names.Names.{Names}
use Rattle.kinds.specs.Names.{names, one_name}
use Rattle.terms.specs.declared.nodes.Node.{Node}
use Rattle.terms.specs.Nodes.{constant_node, variable_node, join_node}
use Rattle.terms.specs.Terms.{Term, var, join}
use Rattle.terms.specs.NormalForms.{normal}
use Rattle.tables.specs.Tables.{Input}
use Rattle.tables.specs.Calls.{input}
use Rattle.steps.specs.declared.verdict.Verdict.{Verdict}
use Rattle.steps.specs.declared.verdict.Verdict.TheVariants.{Forced, Open}
use Rattle.heads.specs.Heads.{Memory}
use Rattle.session.specs.declared.answer.Reply.TheVariants.{Done, Posted, Told, Image}
use Rattle.session.specs.Accounts.{Account, opened, use_of, post, query, mark, return_to_mark, show, new, Event, Run}
use Rattle.samples.specs.Samples.{a, b, x0}

abbrev pub table : List (Node Names)
table =
    variable_node names 0
    ∷ variable_node names 1
    ∷ join_node names 0 1
    ∷ constant_node (one_name 0)
    ∷ constant_node (one_name 1)
    ∷ join_node names 0 3
    ∷ constant_node names.zero
    ∷ []

abbrev pub at_x0 : ℕ
at_x0 = 0

abbrev pub at_x1 : ℕ
at_x1 = 1

abbrev pub at_x0_x1 : ℕ
at_x0_x1 = 2

abbrev pub at_a : ℕ
at_a = 3

abbrev pub at_b : ℕ
at_b = 4

abbrev pub at_x0_a : ℕ
at_x0_a = 5

abbrev pub at_zero : ℕ
at_zero = 6

abbrev pub x1 : Term Names
x1 = var 1

abbrev pub memory : Memory
memory = record { slots = 2; ledger = 4 }

-- with a working byte for each node
abbrev pub input_of : ℕ → ℕ → Input Names
input_of i j = input table i j 7

abbrev pub posts : ℕ → ℕ → Event Names
posts i j = record { call = use_of (post (input_of i j)); answer = Ok Posted }

abbrev pub clashes : ℕ → ℕ → Event Names
clashes i j = record { call = use_of (post (input_of i j)); answer = Err Contradiction }

abbrev pub asks : ℕ → ℕ → Verdict → Event Names
asks i j w = record { call = use_of (query (input_of i j)); answer = Ok (Told w) }

abbrev pub shows : ℕ → Term Names → Event Names
shows v t = record { call = use_of (show v); answer = Ok (Image (normal names t)) }

abbrev pub marks : Event Names
marks = record { call = use_of mark; answer = Ok Done }

abbrev pub returns : Event Names
returns = record { call = use_of return_to_mark; answer = Ok Done }

abbrev pub lacks_mark : Event Names
lacks_mark = record { call = use_of return_to_mark; answer = Err NoMark }

abbrev pub session_samples : List (List (Event Names))
session_samples =
    -- 0 = 0 changes nothing
    (posts at_zero at_zero ∷ shows 0 x0 ∷ shows 1 x1 ∷ [])
    -- a = 0 cannot be
    ∷ (clashes at_a at_zero ∷ [])
    -- X0 ^ X1 = a binds X1
    ∷ (posts at_x0_x1 at_a ∷ shows 1 (join x0 a) ∷ shows 0 x0 ∷ [])
    -- then X0 = X1 cannot be
    ∷ (posts at_x0_x1 at_a ∷ clashes at_x0 at_x1 ∷ [])
    -- and X1 = X0 ^ a is forced, while X0 = a is open
    ∷ (posts at_x0_x1 at_a ∷ asks at_x1 at_x0_a Forced ∷ asks at_x0 at_a Open ∷ [])
    -- and X0 = b binds X0, which changes the image of X1
    ∷ (posts at_x0_x1 at_a ∷ posts at_x0 at_b ∷ shows 0 b ∷ shows 1 (join a b) ∷ [])
    -- an equation after a mark is gone after the return, and with it the mark
    ∷ (marks ∷ posts at_x0 at_a ∷ returns ∷ shows 0 x0 ∷ lacks_mark ∷ [])
    ∷ []

abbrev pub Replays : List (Event Names) → Type 0
Replays l = (b : Account Names) × Run names memory (opened (new memory 2)) l (opened b)
