pub mod FibTrie
