-- A region moves to another thread where its values and its allocator do.
use denote.RattleType.{RattleType}
use denote.Struct.Struct.{exits_of}
use denote.Struct.Owning.{shape, fields, to}
use denote.Param.Send.{IsSend, Frees, AllSend, owning_send, struct_send, sendable}
use Rattle.core.specs.declared.alloc.Allocator.{Ghosts}
use Rattle.std_alloc.proofs.SendSync.{quiet}
use Rattle.raw_lists.specs.contracts.region.Region as C
use Rattle.raw_lists.proofs.Sending.{region-Keyless}

pub send : (R A : RattleType) (g : Ghosts A.Denot) → IsSend R → IsSend A → Frees g g.dealloc_token → IsSend (C.the_row R A g)
send R A g s a f =
    let O = C.the_type R A g in let all : AllSend (fields O) = (search sendable, (search sendable, tt)) in
    owning_send O all (λ d. region-Keyless R s (g.dealloc_token d.heap) (λ ty p. f.frees d.heap ty p) d.first d.places) (λ k. quiet (to O) (exits_of k (fields O)) ((struct_send (shape O) all).leaving k))
