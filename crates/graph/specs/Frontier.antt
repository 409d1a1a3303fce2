-- The marked nodes, the queue that holds them and their hops, while the search goes on.
use Rattle.std.specs.Prelude.{◌≡◌, ℕ, ◌<◌, ◌≤◌, true, List, [], ◌∷◌, ◌++◌, length, slice_index, slice_set}
use Rattle.graph.specs.declared.reach.Front.{Front}
use Rattle.graph.specs.Digraph.{Digraph}
use Rattle.graph.specs.Reach.{Reached, Marked}
use Rattle.graph.specs.Sums.{total}
use Rattle.graph.specs.Trace.{Entered}

-- the rows are the same two, as long as they were, for as many nodes
pub record SameRows (before after : Front) : Type 0 where
  pub nodes : after.nodes ≡ before.nodes
  pub marks : after.marks.ghost_name ≡ before.marks.ghost_name
  pub hops : after.hops.ghost_name ≡ before.hops.ghost_name
  pub marks_long : length after.marks.now ≡ length before.marks.now
  pub hops_long : length after.hops.now ≡ length before.hops.now

-- the queue holds the marked nodes below n, each of them once; no hop passes its node's place
pub record Queued (n : ℕ) (front : Front) : Type 0 where
  pub bits : (v : ℕ) → v < n → slice_index front.marks.now v ≤ 1
  pub counted : length front.queue.items ≡ total (λ v. slice_index front.marks.now v) n
  pub node : (q : ℕ) → q < length front.queue.items → slice_index front.queue.items q < n
  pub marked : (q : ℕ) → q < length front.queue.items → slice_index front.marks.now (slice_index front.queue.items q) ≡ 1
  pub place : (v : ℕ) → v < n → slice_index front.marks.now v ≡ 1 → (q : ℕ) × (q < length front.queue.items) × (slice_index front.queue.items q ≡ v)
  pub near : (q : ℕ) → q < length front.queue.items → slice_index front.hops.now (slice_index front.queue.items q) ≤ q

-- node v is marked, stands at the end of the queue and has the hop d, and nothing else has changed
pub record Enqueued (v d : ℕ) (before after : Front) : Type 0 where
  pub marks : after.marks.now ≡ slice_set before.marks.now v 1
  pub hops : after.hops.now ≡ slice_set before.hops.now v d
  pub queue : after.queue.items ≡ before.queue.items ++ v ∷ []

-- of the first n marks each nonzero one is 1 afterwards, with the hop 0; other marks and the hops from n on are kept
pub record Started (n : ℕ) (before after : Front) : Type 0 where
  pub raised : (v : ℕ) → v < n → 0 < slice_index before.marks.now v → slice_index after.marks.now v ≡ 1
  pub clear : (v : ℕ) → v < n → slice_index before.marks.now v ≡ 0 → slice_index after.marks.now v ≡ 0
  pub kept : (k : ℕ) → n ≤ k → slice_index after.marks.now k ≡ slice_index before.marks.now k
  pub hop : (v : ℕ) → v < n → 0 < slice_index before.marks.now v → slice_index after.hops.now v ≡ 0
  pub hops_kept : (k : ℕ) → n ≤ k → slice_index after.hops.now k ≡ slice_index before.hops.now k

-- marked nodes stay so, and open arcs lead from them to each that is marked afterwards
pub record Spread (g : Digraph) (before after : List ℕ) : Type 0 where
  pub stays : (v : ℕ) → v < g.nodes → 0 < slice_index before v → slice_index after v ≡ 1
  pub reached : (v : ℕ) → v < g.nodes → 0 < slice_index after v → Reached g (Marked g before) v
  pub kept : (k : ℕ) → g.nodes ≤ k → slice_index after k ≡ slice_index before k

-- marked nodes keep their hops, and each other one that is marked afterwards has one hop more than a node that it is entered from
pub record Paced (g : Digraph) (marks hops marks' hops' : List ℕ) : Type 0 where
  pub same : (v : ℕ) → v < g.nodes → 0 < slice_index marks v → slice_index hops' v ≡ slice_index hops v
  pub entered : (v : ℕ) → v < g.nodes → slice_index marks v ≡ 0 → 0 < slice_index marks' v → Entered g marks' hops' v
  pub kept : (k : ℕ) → g.nodes ≤ k → slice_index hops' k ≡ slice_index hops k

-- more nodes are marked, with their hops, and the queue holds them behind those before
pub record Grown (g : Digraph) (before after : Front) : Type 0 where
  pub queued : Queued g.nodes after
  pub spread : Spread g before.marks.now after.marks.now
  pub paced : Paced g before.marks.now before.hops.now after.marks.now after.hops.now
  pub longer : length before.queue.items ≤ length after.queue.items
  pub kept : (q : ℕ) → q < length before.queue.items → slice_index after.queue.items q ≡ slice_index before.queue.items q

-- v is a node and has the mark 1
abbrev pub Found : Digraph → List ℕ → ℕ → Type 0
Found g marks v = (v < g.nodes) × (slice_index marks v ≡ 1)

-- each open arc that leaves v enters a node with the mark 1
abbrev pub Left : Digraph → List ℕ → ℕ → Type 0
Left g marks v = (a : ℕ) → a < g.arcs → g.from a ≡ v → g.opens a ≡ true → Found g marks (g.to a)

-- no open arc leads from a node with the mark 1 to one without
abbrev pub Closed : Digraph → List ℕ → Type 0
Closed g marks = (v : ℕ) → Found g marks v → Left g marks v
