-- Nodes move to another thread where their values and their allocator do.
use Rattle.std.specs.Prelude.{List, [], ◌∷◌, Some}
use base.Fml.{Fml}
use base.Shift.{Keyless}
use mir.Syntax.{Ty}
use denote.RattleType.{RattleType}
use denote.RawPtr.{Ptr}
use denote.Struct.Struct.{exits_of}
use denote.Struct.Owning.{shape, fields, to}
use denote.Param.Send.{IsSend, Frees, AllSend, owning_send, struct_send, sendable}
use Rattle.core.specs.declared.alloc.Allocator.{Ghosts}
use Rattle.std_alloc.proofs.SendSync.{quiet}
use Rattle.raw_lists.specs.Nodes.{nodes_own}
use Rattle.raw_lists.specs.contracts.nodes.Nodes as C
use Rattle.raw_lists.proofs.Sending.{region-Keyless}

nodes-Keyless : (R : RattleType) → IsSend R → (token : Ty → Ptr → Fml) → ((ty : Ty) (p : Ptr) → Keyless (token ty p)) → (cells : List (Ptr × R.Denot)) → Keyless (nodes_own R token cells)
nodes-Keyless R s token frees [] = tt
nodes-Keyless R s token frees (cell ∷ cells) = (region-Keyless R s token frees cell.0 (Some cell.1 ∷ []), nodes-Keyless R s token frees cells)

pub send : (R A : RattleType) (g : Ghosts A.Denot) → IsSend R → IsSend A → Frees g g.dealloc_token → IsSend (C.the_row R A g)
send R A g s a f =
    let O = C.the_type R A g in let all : AllSend (fields O) = (search sendable, (search sendable, tt)) in
    owning_send O all (λ d. nodes-Keyless R s (g.dealloc_token d.heap) (λ ty p. f.frees d.heap ty p) d.cells) (λ k. quiet (to O) (exits_of k (fields O)) ((struct_send (shape O) all).leaving k))
