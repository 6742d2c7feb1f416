pub mod HeapDump
